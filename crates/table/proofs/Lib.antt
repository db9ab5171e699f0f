mod Answering
