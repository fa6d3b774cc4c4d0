-- A reply without a frame reads as one of zeros.
use Rattle.std.proofs.Common.{◌≡◌, ◌∙◌, ℕ, zero, suc, ◌+◌, List, [], ◌++◌, replicate, Option, Some, None, refl, sym, ap}
use Rattle.std.specs.Prelude.{unwrap_or}
use Rattle.mpi_layout.specs.Rows.{field}
use Rattle.mpt_wire.specs.Messages.Fields.{change_at, changes_from, changes_in, event_context_in, event_in, termination_count_in}
use Rattle.mpt_rules.specs.Host.Replies.{abort_outcome, address_read}
use Rattle.host_reading.specs.Changes.{IsCount, beyond}
use Rattle.host_reading.proofs.Numbers.{field_same, zeros_behind}

abbrev zeros : List ℕ
zeros = replicate 128 0

pub abort_framed : (frame : Option (List ℕ)) → abort_outcome (unwrap_or frame zeros) ≡ abort_outcome (unwrap_or frame [])
unfolding field
abort_framed (Some bytes) = refl
abort_framed None = refl

pub count_framed : (frame : Option (List ℕ)) → termination_count_in (unwrap_or frame zeros) ≡ termination_count_in (unwrap_or frame [])
unfolding field
count_framed (Some bytes) = refl
count_framed None = refl

pub address_framed : (frame : Option (List ℕ)) (page : List ℕ) → address_read (unwrap_or frame zeros) page ≡ address_read (unwrap_or frame []) page
unfolding field
address_framed (Some bytes) page = refl
address_framed None page = refl

pub event_framed : (frame : Option (List ℕ)) → event_in (unwrap_or frame zeros) ≡ event_in (unwrap_or frame [])
unfolding field
event_framed (Some bytes) = refl
event_framed None = refl

pub context_framed : (frame : Option (List ℕ)) → event_context_in (unwrap_or frame zeros) ≡ event_context_in (unwrap_or frame [])
unfolding field
context_framed (Some bytes) = refl
context_framed None = refl

blank_field : (at w : ℕ) → field zeros at w ≡ field [] at w
blank_field at w = field_same zeros [] at w (λ i within. zeros_behind [] 128 i)

blank_change : (at : ℕ) → change_at zeros at ≡ change_at [] at
blank_change at = rw (blank_field at 2, blank_field (at + 3) 1) refl

pub change_framed : (frame : Option (List ℕ)) (at : ℕ) → change_at (unwrap_or frame zeros) at ≡ change_at (unwrap_or frame []) at
change_framed (Some bytes) at = refl
change_framed None at = blank_change at

blank_changes : (at n : ℕ) → changes_from zeros at n ≡ changes_from [] at n
unfolding changes_from
blank_changes at zero = refl
blank_changes at (suc n) = rw (blank_change at, blank_changes (at + 4) n) refl

blank_list : changes_in zeros ≡ changes_in []
unfolding field
blank_list = refl

pub list_framed : (frame : Option (List ℕ)) (n : ℕ) → IsCount n (unwrap_or frame zeros) → IsCount n (unwrap_or frame [])
list_framed (Some bytes) n count = count
list_framed None n count = (count.0, sym blank_list ∙ count.1 ∙ ap (λ cs. cs ++ replicate count.0 beyond) (blank_changes 0x28 n))
