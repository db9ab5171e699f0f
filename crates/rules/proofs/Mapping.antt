-- What `array::from_fn` gives of an array's elements, where the closure is the same after each call.
use Rattle.std.proofs.Common.{◌≡◌, ℕ, zero, suc, ◌+◌, ◌<◌, ◌≤◌, inl, inr, List, map, length, get_or, ext_get_or, sym, refl, ap, ◌∙◌, subst, arith}
use Rattle.std.proofs.lemmas.List.{get_or-map, length-map}
use Rattle.std.proofs.Math.Nat.{eq-or-lt_of_le}
use Rattle.std.specs.Array.{IsFromFnResultFrom, IsFromFnResult}
use Rattle.std.specs.Fn.{Called}
use denote.Param.Members.{Mut}

module _ {F A B : Type 0} (g : Mut F (ℕ × Unit {0}) B) (h : A → B) (xs : List A) (d : A) (f : F) (step : (i : ℕ) (y : B) (q : F) → Called g f (i, tt) y q → (q ≡ f) × (y ≡ h (get_or xs i d))) (ys : List B) where
  each_from : (p : F) (i n : ℕ) → p ≡ f → IsFromFnResultFrom g p ys i n → (k : ℕ) → i ≤ k → k < i + n → (e : B) → get_or ys k e ≡ h (get_or xs k d)
  each_from p i zero same calls k from below e = absurd (omega arith)
  each_from p i (suc n) same calls k from below e =
      let told = step i calls.1 calls.0 (subst (λ s. Called g s (i, tt) calls.1 calls.0) same calls.3) in
      elim (eq-or-lt_of_le from) [
        | inl here ↦ ap (λ j. get_or ys j e) (sym here) ∙ (calls.2.1 e ∙ (told.1 ∙ ap (λ j. h (get_or xs j d)) here))
        | inr later ↦ each_from calls.0 (i + 1) n told.0 calls.4 k (omega arith) (omega arith) e
      ]

  pub mapped : (n : ℕ) (e : B) → length xs ≡ n → IsFromFnResult g f ys n → ys ≡ map h xs
  mapped n e from calls =
      ext_get_or e ys (map h xs) (calls.long ∙ sym (length-map xs h ∙ from))
      (λ k within.
      let short : k < n = omega (arith, calls.long) in
      each_from f 0 n refl calls.each k (omega arith) (omega arith) e ∙ sym (get_or-map h xs k d e (omega (arith, from))))
