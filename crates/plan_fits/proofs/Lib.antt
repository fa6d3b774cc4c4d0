-- Lemmas.
mod NoMore
mod Numbers
