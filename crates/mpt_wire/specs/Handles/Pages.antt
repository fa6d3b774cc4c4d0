-- A device page has the address to which its handle is bound, and a submission goes to the one handle whose page
-- names its disk.
use Rattle.std.specs.Prelude.{◌≡◌, ℕ, Bool, true, false, ◌==◌, if◌then◌else◌, Option, Some, None, List, ◌∷◌, ◌++◌}
use Rattle.std.specs.Option.{option_map}
use Rattle.std.specs.List.{list_any}
use Rattle.mpt_trace.specs.declared.item.Item.TheVariants as item
use Rattle.mpt_trace.specs.declared.item.Up.{Up}
use Rattle.mpt_trace.specs.declared.entry.Entry.{Entry}
use Rattle.mpt_trace.specs.declared.entry.Entry.TheVariants as entry
use Rattle.mpt_wire.specs.Messages.Fields.{Change, target_not_responding}
use Rattle.mpt_wire.specs.Walks.Lasting.{Lasts}
use Rattle.mpt_wire.specs.Handles.Bindings.{Plug, IsBoundTo}
use Rattle.mpt_wire.specs.Machine.State.{put_at}
use Rattle.mpt_wire.specs.Handles.Names.{Aimed, Disk, changes_told, page_carried, post_in}

-- the disk whose device page the entry puts, or takes
abbrev pub page_put : Entry → Option Disk
page_put (entry.Put lane (item.Up i)) = page_carried i
page_put _ = None

abbrev pub page_taken : Entry → Option Disk
page_taken (entry.Take lane (item.Up i)) = page_carried i
page_taken _ = None

-- ---- over the entries before

-- the handle is bound to the address
abbrev pub IsBoundAt : List Entry → ℕ → ℕ → Type 0
IsBoundAt before h address = (number : ℕ) × IsBoundTo before h (record { address = address; number = number })

-- each device page that is put for a handle has the address to which it is bound
abbrev pub PagesAreOfBindings : List Entry → Type 0
PagesAreOfBindings t = (before after : List Entry) (e : Entry) (disk : Disk) → t ≡ before ++ e ∷ after → page_put e ≡ Some disk → IsBoundAt before disk.handle disk.address

-- an entry of a page's time: the host takes "not responding" of the handle, or begins anew
abbrev pub is_gone_change : ℕ → Change → Bool
is_gone_change h change = if change.handle == h then change.status == target_not_responding else false

abbrev pub ends_page : ℕ → Entry → Bool
ends_page h (entry.Take lane (item.Up i)) = list_any (is_gone_change h) (changes_told i)
ends_page h entry.ResetDone = true
ends_page h _ = false

-- the host took a page of the handle with the address, since the last `reset done` and with no "not responding" of
-- the handle since
abbrev pub HasPage : List Entry → ℕ → ℕ → Type 0
HasPage before h address = Lasts (λ e. page_taken e ≡ Some (record { handle = h; address = address })) (ends_page h) before

-- the one handle with such a page
pub record IsItsHandle (before : List Entry) (address h : ℕ) : Type 0 where
  pub has : HasPage before h address
  pub only : (other : ℕ) → HasPage before other address → other ≡ h

-- an entry puts the post of s, or accepts another submission under s
abbrev pub is_aimed_as : ℕ → Option Aimed → Bool
is_aimed_as s None = false
is_aimed_as s (Some post) = post.smid == s

abbrev pub takes_smid : ℕ → Entry → Bool
takes_smid s (entry.Accept n address smid) = smid == s
takes_smid s (entry.Put lane (item.Down i)) = is_aimed_as s (post_in i)
takes_smid s _ = false

-- the post that an entry puts
abbrev pub aimed_in_put : Entry → Option Aimed
aimed_in_put (entry.Put lane (item.Down i)) = post_in i
aimed_in_put _ = None

-- at each `accept` there is one handle with a page of the address, and the post of its identifier has this handle
pub record PostsGoToPages (t : List Entry) : Type 0 where
  pub one : (before after : List Entry) (n address s : ℕ) → t ≡ before ++ entry.Accept n address s ∷ after → (h : ℕ) × IsItsHandle before address h
  pub post : (before between after : List Entry) (n address s : ℕ) (e : Entry) (h : ℕ) → t ≡ before ++ entry.Accept n address s ∷ (between ++ e ∷ after)
      → list_any (takes_smid s) between ≡ false → aimed_in_put e ≡ Some (record { smid = s; handle = h }) → IsItsHandle before address h

-- ---- as rules that go over the entries

abbrev pub address_of : Option Plug → Option ℕ
address_of plug = option_map (λ p. p.address) plug

-- a page that is put has the address that is bound; the rule's state is what each handle is bound to
abbrev pub IsPageOfBinding : (ℕ → Option Plug) → Option Disk → Type 0
IsPageOfBinding bound None = Unit {0}
IsPageOfBinding bound (Some disk) = address_of (bound disk.handle) ≡ Some disk.address

abbrev pub PageAsks : (ℕ → Option Plug) → Entry → Type 0
PageAsks bound e = IsPageOfBinding bound (page_put e)

-- whether the host has a page of a handle with an address, and the handles with a page of the address of the last
-- submission under an identifier, as it was accepted
pub record Paged : Type 0 where
  pub pages : ℕ → ℕ → Bool
  pub chosen : ℕ → Option (ℕ → Bool)

abbrev pub no_pages : ℕ → ℕ → Bool
no_pages h address = false

abbrev pub nothing_paged : Paged
nothing_paged = record { pages = no_pages; chosen = λ s. None }

abbrev pub with_page : (ℕ → ℕ → Bool) → Option Disk → (ℕ → ℕ → Bool)
with_page pages None = pages
with_page pages (Some disk) = put_at disk.handle (put_at disk.address true (pages disk.handle)) pages

-- a handle that doesn't respond has no page any longer
abbrev pub without_pages : (ℕ → ℕ → Bool) → List Change → (ℕ → ℕ → Bool)
without_pages pages changes h address = if list_any (is_gone_change h) changes then false else pages h address

abbrev pub pages_taken : (ℕ → ℕ → Bool) → Up → (ℕ → ℕ → Bool)
pages_taken pages i = with_page (without_pages pages (changes_told i)) (page_carried i)

abbrev pub paged_next : Paged → Entry → Paged
paged_next g (entry.Take lane (item.Up i)) = record g { pages = pages_taken g.pages i }
paged_next g (entry.Accept n address smid) = record g { chosen = put_at smid (Some (λ h. g.pages h address)) g.chosen }
paged_next g entry.ResetDone = record g { pages = no_pages }
paged_next g _ = g

-- exactly one handle has a page of the address
abbrev pub HasOnePage : (ℕ → ℕ → Bool) → ℕ → Type 0
HasOnePage pages address = (h : ℕ) × (pages h address ≡ true) × ((other : ℕ) → pages other address ≡ true → other ≡ h)

-- the post goes to a handle that was chosen
abbrev pub GoesTo : Option (ℕ → Bool) → ℕ → Type 0
GoesTo None h = Unit {0}
GoesTo (Some chosen) h = chosen h ≡ true

abbrev pub IsAimedWell : (ℕ → Option (ℕ → Bool)) → Option Aimed → Type 0
IsAimedWell chosen None = Unit {0}
IsAimedWell chosen (Some post) = GoesTo (chosen post.smid) post.handle

abbrev pub PagedAsks : Paged → Entry → Type 0
PagedAsks g (entry.Accept n address smid) = HasOnePage g.pages address
PagedAsks g (entry.Put lane (item.Down i)) = IsAimedWell g.chosen (post_in i)
PagedAsks g _ = Unit {0}
