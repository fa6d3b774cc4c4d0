-- The changes of an event, one after the other.
use Rattle.std.proofs.Common.{◌-◌, ◌<◌, arith, ◌≡◌, ◌∙◌, ℕ, zero, suc, ◌+◌, ◌*◌, [], ◌∷◌, ◌++◌, List, replicate, refl, sym, ap, append_assoc}
use Rattle.mpt_trace.specs.declared.entry.Entry.{Entry}
use Rattle.mpt_wire.specs.Messages.Fields.{Change, change_at, changes_from, changes_in, event_context_in, event_in}
use Rattle.mpt_rules.specs.Outcome.{Happening}
use Rattle.mpt_rules.specs.declared.request.Request.TheVariants as request
use Rattle.mpt_rules.specs.Host.Parts.{Host}
use Rattle.mpt_rules.specs.Host.Posts.{asks_internal}
use Rattle.mpt_rules.specs.Host.Removal.{after_told, hears_change, hears_changes, quietly}
use Rattle.host_reading.specs.Changes.{IsCount, beyond}
use Rattle.host_reading.proofs.Listed.{change_next}

hears_none : (host : Host) (more : ℕ) → hears_changes host (replicate more beyond) ≡ quietly host
unfolding hears_changes
hears_none host zero = refl
hears_none host (suc more) = rw (hears_none host more) refl

hears_counted_of : (host : Host) (cs : List Change) (more : ℕ) → hears_changes host (cs ++ replicate more beyond) ≡ hears_changes host cs
unfolding hears_changes
hears_counted_of host [] more = hears_none host more
hears_counted_of host (c ∷ cs) more = ap (after_told (hears_change host c).entries) (hears_counted_of (hears_change host c).part cs more)

-- only those cause something for which the frame has room
pub hears_counted : (host : Host) (frame : List ℕ) (n : ℕ) → IsCount n frame → hears_changes host (changes_in frame) ≡ hears_changes host (changes_from frame 0x28 n)
hears_counted host frame n count = ap (hears_changes host) count.1 ∙ hears_counted_of host (changes_from frame 0x28 n) count.0

pub next_part : (host : Host) (c : Change) (cs : List Change) → (hears_changes host (c ∷ cs)).part ≡ (hears_changes (hears_change host c).part cs).part
unfolding hears_changes
next_part host c cs = refl

pub next_told : (told : List Entry) (host : Host) (c : Change) (cs : List Change) → told ++ (hears_changes host (c ∷ cs)).entries ≡ (told ++ (hears_change host c).entries) ++ (hears_changes (hears_change host c).part cs).entries
unfolding hears_changes
next_told told host c cs = sym (append_assoc told (hears_change host c).entries (hears_changes (hears_change host c).part cs).entries)

pub none_heard : (host : Host) → hears_changes host [] ≡ quietly host
unfolding hears_changes
none_heard host = refl

-- ---- the walk over the changes

-- what those from a place on cause
abbrev pub heard_from : Host → List ℕ → ℕ → ℕ → Happening Host
heard_from host frame place end = hears_changes host (changes_from frame (0x28 + 4 * place) (end - place))

here : (host : Host) (frame : List ℕ) (place end : ℕ) → place < end → heard_from host frame place end ≡ hears_changes host (change_at frame (0x28 + 4 * place) ∷ changes_from frame (0x28 + 4 * (place + 1)) (end - (place + 1)))
here host frame place end within = ap (hears_changes host) (change_next frame place end within)

pub part_next : (host next : Host) (c : Change) (frame : List ℕ) (place end : ℕ) → place < end → c ≡ change_at frame (0x28 + 4 * place) → next ≡ (hears_change host c).part → (heard_from host frame place end).part ≡ (heard_from next frame (place + 1) end).part
part_next host next c frame place end within is after =
    let change : Change = change_at frame (0x28 + 4 * place) in
    let rest : List Change = changes_from frame (0x28 + 4 * (place + 1)) (end - (place + 1)) in
    let at : (hears_change host change).part ≡ next = ap (λ d. (hears_change host d).part) (sym is) ∙ sym after in
    ap (λ (h : Happening Host). h.part) (here host frame place end within) ∙ next_part host change rest ∙ ap (λ h. (hears_changes h rest).part) at

pub told_next : (host next : Host) (told later : List Entry) (c : Change) (frame : List ℕ) (place end : ℕ) → place < end → c ≡ change_at frame (0x28 + 4 * place) → next ≡ (hears_change host c).part → later ≡ told ++ (hears_change host c).entries
    → told ++ (heard_from host frame place end).entries ≡ later ++ (heard_from next frame (place + 1) end).entries
told_next host next told later c frame place end within is after said =
    let change : Change = change_at frame (0x28 + 4 * place) in
    let rest : List Change = changes_from frame (0x28 + 4 * (place + 1)) (end - (place + 1)) in
    let at : (hears_change host change).part ≡ next = ap (λ d. (hears_change host d).part) (sym is) ∙ sym after in
    let tells : told ++ (hears_change host change).entries ≡ later = ap (λ d. told ++ (hears_change host d).entries) (sym is) ∙ sym said in
    ap (λ (h : Happening Host). told ++ h.entries) (here host frame place end within)
    ∙ next_told told host change rest
    ∙ ap (λ h. (told ++ (hears_change host change).entries) ++ (hears_changes h rest).entries) at
    ∙ ap (λ es. es ++ (hears_changes next rest).entries) tells

change_none : (frame : List ℕ) (at n : ℕ) → n ≡ 0 → changes_from frame at n ≡ []
unfolding changes_from
change_none frame at n none = rw none refl

pub heard_start : (host : Host) (frame : List ℕ) (end : ℕ) → hears_changes host (changes_from frame 0x28 end) ≡ heard_from host frame 0 end
heard_start host frame end = let all : end - 0 ≡ end = omega arith in rw all refl

-- at the end nothing more is caused
pub heard_end : (host : Host) (frame : List ℕ) (place end : ℕ) → end - place ≡ 0 → heard_from host frame place end ≡ quietly host
heard_end host frame place end none = ap (hears_changes host) (change_none frame (0x28 + 4 * place) (end - place) none) ∙ none_heard host

pub no_more : (told : List Entry) → told ++ [] ≡ told
no_more [] = refl
no_more (e ∷ es) = ap (λ rest. e ∷ rest) (no_more es)

-- an event is acknowledged
pub acknowledged : (host acked : Host) (frame : List ℕ) (event context : ℕ) → acked ≡ asks_internal host (request.Ack event context) → event ≡ event_in frame → context ≡ event_context_in frame → acked ≡ asks_internal host (request.Ack (event_in frame) (event_context_in frame))
acknowledged host acked frame event context is event_is context_is =
    is ∙ ap (λ e. asks_internal host (request.Ack e context)) event_is ∙ ap (λ x. asks_internal host (request.Ack (event_in frame) x)) context_is
