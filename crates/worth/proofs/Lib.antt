mod Fronts
mod Laws
