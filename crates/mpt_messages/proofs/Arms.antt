-- One arm of a function that goes by the message.
use Rattle.std.proofs.Common.{◌≡◌, ℕ, List, ◌++◌, Result, Ok, Err, OnOk, ap, ◌∙◌, append_assoc, subst}
use Rattle.std.specs.declared.alloc.AllocError.{AllocError}
use Rattle.mpi_layout.specs.Rows.{Shape}
use Rattle.mpt_messages.specs.Listing.{listing_text}

-- a plain message's listing
pub listed_arm : (outcome : Result (Unit {0}) AllocError) (before after name : List ℕ) (code layout : Shape) (numbers values : List ℕ) → code ≡ layout → numbers ≡ values → OnOk outcome (after ≡ before ++ listing_text name code numbers) → OnOk outcome (after ≡ before ++ listing_text name layout values)
listed_arm outcome before after name code layout numbers values same equal listed =
    subst (λ (s : Shape). OnOk outcome (after ≡ before ++ listing_text name s values)) same (subst (λ xs. OnOk outcome (after ≡ before ++ listing_text name code xs)) equal listed)

-- three pieces added one after another
pub three_added : (outcome : Result (Unit {0}) AllocError) (start one two end a b c : List ℕ) → one ≡ start ++ a → two ≡ one ++ b → OnOk outcome (end ≡ two ++ c) → OnOk outcome (end ≡ start ++ (a ++ b ++ c))
three_added (Ok done) start one two end a b c first second third =
    let joined = ap (λ xs. xs ++ c) (second ∙ ap (λ xs. xs ++ b) first) in
    third ∙ joined ∙ ap (λ xs. xs ++ c) (append_assoc start a b) ∙ append_assoc start (a ++ b) c
three_added (Err error) start one two end a b c first second third = tt
