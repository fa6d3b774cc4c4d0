-- Where the controller is OPERATIONAL and the fabric on behind a step of the controller's, it was OPERATIONAL before.
use Rattle.std.proofs.Common.{◌≡◌, ℕ, ◌==◌, ◌&&◌, not, Bool, true, false, if◌then◌else◌, List, [], ◌∷◌, refl, ap, sym, ◌∙◌, subst, arith}
use Rattle.mpi_doorbell.specs.DoorRegisters.{DoorRegisters, is_fault, linked_up}
use Rattle.mpi_doorbell.specs.declared.state.IocState.{IocState}
use Rattle.mpi_doorbell.specs.declared.state.IocState.TheVariants as ioc_state
use Rattle.mpt_trace.specs.declared.item.Back.{Back}
use Rattle.mpt_trace.specs.declared.item.Down.{Down}
use Rattle.mpt_rules.specs.declared.binding.Binding.TheVariants as binding
use Rattle.mpt_rules.specs.declared.post.Post.{Post}
use Rattle.mpt_rules.specs.Ioc.Bindings as bind
use Rattle.mpt_rules.specs.Ioc.Commands as commands
use Rattle.mpt_rules.specs.Ioc.Parts.{Ioc, state_of}
use Rattle.mpt_rules.specs.Ioc.Replies as say
use Rattle.mpt_rules.specs.Ioc.Tables as table
use Rattle.mpt_rules.specs.Ioc.Tables.{is_operational, is_ready, is_reset}
use Rattle.mpt_rules.specs.Ioc.Takes as adapter
use Rattle.mpt_rules.specs.Outcome.{Happening}
use Rattle.mpt_rules.specs.World.State.{World}
use Rattle.law_facts.specs.Clock.{FabricOff, has_asked, in_begun, in_reset, is_dark, is_live}
use Rattle.law_facts.specs.Facts.{Facts}
use Rattle.law_facts.specs.History.{History}
use Rattle.law_flights.proofs.Leaves.{Hears, Bound, Calmed, Done, Ended, Linked, Lost, Passed, Unawaited, Waits, back_leaf, reply_made}
use Rattle.law_moves.proofs.IocTakes as leaf
use Rattle.law_moves.proofs.IocTakes.{Takes, takes}

-- ---- states

reset_apart : (s : IocState) → is_reset s ≡ true → is_operational s ≡ true → ⊥
reset_apart ioc_state.Reset r l = absurd (cc)
reset_apart ioc_state.Ready r l = absurd (cc)
reset_apart ioc_state.Operational r l = absurd (cc)
reset_apart (ioc_state.Fault code) r l = absurd (cc)

ready_apart : (s : IocState) → is_reset s ≡ true → is_ready s ≡ true → ⊥
ready_apart ioc_state.Reset r l = absurd (cc)
ready_apart ioc_state.Ready r l = absurd (cc)
ready_apart ioc_state.Operational r l = absurd (cc)
ready_apart (ioc_state.Fault code) r l = absurd (cc)

pub fault_apart : (s : IocState) → is_fault s ≡ true → is_operational s ≡ true → ⊥
fault_apart ioc_state.Reset r l = absurd (cc)
fault_apart ioc_state.Ready r l = absurd (cc)
fault_apart ioc_state.Operational r l = absurd (cc)
fault_apart (ioc_state.Fault code) r l = absurd (cc)

-- a link doesn't make a controller that is RESET OPERATIONAL
pub linked_state : (d : DoorRegisters) → is_reset d.state ≡ true → is_operational (linked_up d).state ≡ false
linked_state d r = by_hold (not d.hold_reset) refl
  where
    by_state : (s : IocState) → is_reset s ≡ true → is_operational s ≡ false
    by_state ioc_state.Reset e = refl
    by_state ioc_state.Ready e = absurd (cc)
    by_state ioc_state.Operational e = absurd (cc)
    by_state (ioc_state.Fault code) e = absurd (cc)

    by_hold : (b : Bool) → not d.hold_reset ≡ b → is_operational (if b then record d { state = ioc_state.Ready; reset_adapter = false; link_waits = false } else record d { reset_adapter = false; link_waits = true }).state ≡ false
    by_hold true e = refl
    by_hold false e = by_state d.state r

-- ---- what the controller was before

-- a step that may have made a controller that was RESET OPERATIONAL, and hasn't
abbrev pub NeverRises : Ioc → Ioc → Type 0
NeverRises i k = is_reset (state_of i) ≡ true → is_operational (state_of k) ≡ true → ⊥

stays : (i k : Ioc) → k.door.state ≡ i.door.state → NeverRises i k
stays i k e r l = reset_apart (state_of i) r (sym (ap is_operational e) ∙ l)

down_leaf : (i : Ioc) (x : Down) (k : Ioc) → Takes i x k → NeverRises i k
down_leaf i x k (leaf.Faults y j f) r l = fault_apart k.door.state f l
down_leaf i x k (leaf.Written reg value j n s e) r l = stays i k s r l
down_leaf i x k (leaf.Operates value j n a s e) r l = ready_apart (state_of i) r a
down_leaf i x k (leaf.Forgets reg value d a) r l = absurd (cc)
down_leaf i x k (leaf.Reads reg value) r l = reset_apart (state_of i) r l
down_leaf i x k (leaf.Posts d f p j o e) r l = reset_apart (state_of i) r o
down_leaf i x k (leaf.DropsPost d f p o) r l = reset_apart (state_of i) r l
down_leaf i x k (leaf.Returns address index j o e) r l = reset_apart (state_of i) r o
down_leaf i x k (leaf.DropsReturn address index o) r l = reset_apart (state_of i) r l
down_leaf i x k leaf.Stops r l = reset_apart (state_of i) r l

releases_door : (handle : ℕ) (ioc : Ioc) → (commands.releases ioc handle).door ≡ ioc.door
releases_door handle ioc = by_commands (table.has_commands ioc handle)
  where
    by_commands : (b : Bool) → (if b then ioc else commands.answers_held ioc handle).door ≡ ioc.door
    by_commands true = refl
    by_commands false = refl

changes_door : (ioc : Ioc) (handle expander phy : ℕ) (added : Bool) → (bind.changes ioc handle expander phy added).door ≡ ioc.door
changes_door ioc handle expander phy added = by_through ioc.through
  where
    by_through : (b : Bool) → (if b then bind.tells_change ioc handle expander phy added else ioc).door ≡ ioc.door
    by_through true = refl
    by_through false = refl

same_door : (i : Ioc) (o x : Happening Ioc) → o ≡ x → x.part.door ≡ i.door → NeverRises i o.part
same_door i o x e d = stays i o.part (ap (λ (y : Happening Ioc). y.part.door.state) e ∙ ap (λ (y : DoorRegisters). y.state) d)

back_rises : (i : Ioc) (x : Back) (o : Happening Ioc) → Hears i x o → NeverRises i o.part
back_rises i x o (Passed e) = same_door i o _ e refl
back_rises i x o (Ended tag handle queue len written at e) = same_door i o _ e (releases_door handle (say.says_on (table.without_request i tag) queue (reply_made x handle len written ∷ [])))
back_rises i x o (Done smid r answer at e) = same_door i o _ e refl
back_rises i x o (Bound disk handle l k e) = same_door i o (bind.binds_to i disk (Rattle.std.proofs.Common.Some handle)) e (changes_door (table.with_binding i handle (binding.Present disk.address disk.plug disk.expander disk.phy)) handle disk.expander disk.phy true)
back_rises i x o (Waits disk l k e) = same_door i o _ e refl
back_rises i x o (Lost handle address plug expander phy b e) = same_door i o _ e (changes_door (table.with_binding i handle (binding.Gone address)) handle expander phy false)
back_rises i x o (Unawaited address h e) = same_door i o _ e refl
back_rises i x o (Linked generation a e) = λ r l. let z = linked_state i.door a in let s = ap (λ (y : Happening Ioc). is_operational y.part.door.state) e in absurd (cc)
back_rises i x o (Calmed e) = same_door i o _ e refl

module _ (w : World) (h : History) (f : Facts w h) where
  -- the controller of a fabric that is on is OPERATIONAL or RESET
  pub on_means : w.fabric.on ≡ true → is_live w ≡ false → is_reset (state_of w.ioc) ≡ true
  on_means o l = by_reset (in_reset w) refl
    where
      by_reset : (b : Bool) → in_reset w ≡ b → is_reset (state_of w.ioc) ≡ true
      by_reset true r = by_parts (in_begun w) (is_reset (state_of w.ioc)) refl r
        where
          by_parts : (b c : Bool) → is_reset (state_of w.ioc) ≡ c → (b && c) ≡ true → is_reset (state_of w.ioc) ≡ true
          by_parts true c e r = e ∙ r
          by_parts false c e r = absurd (cc)
      by_reset false r = let d : is_dark w ≡ true = grind (arith, l, r) in let off = (f.clock.fabric_off.dark d).on in absurd (cc)

  was_live : (k : Ioc) → NeverRises w.ioc k → w.fabric.on ≡ true → is_operational (state_of k) ≡ true → is_live w ≡ true
  was_live k n o l = by_live (is_live w) refl
    where
      by_live : (b : Bool) → is_live w ≡ b → b ≡ true
      by_live true e = refl
      by_live false e = absurd (n (on_means o e) l)

  pub live_down : (x : Down) → w.fabric.on ≡ true → is_operational (state_of (adapter.takes_down w.ioc x).part) ≡ true → is_live w ≡ true
  live_down x = was_live (adapter.takes_down w.ioc x).part (down_leaf w.ioc x (adapter.takes_down w.ioc x).part (takes w.ioc f.doorbell.sound.waits f.clock.phase_table.whole x))

  pub live_back : (x : Back) → w.fabric.on ≡ true → is_operational (state_of (adapter.takes_back w.ioc x).part) ≡ true → is_live w ≡ true
  live_back x = was_live (adapter.takes_back w.ioc x).part (back_rises w.ioc x (adapter.takes_back w.ioc x) (back_leaf w.ioc x))

  -- only a controller that is OPERATIONAL has something queued
  pub live_high : (p : Post) (rest : List Post) → w.ioc.high ≡ p ∷ rest → is_live w ≡ true
  live_high p rest e = by_live (is_live w) refl
    where
      by_live : (b : Bool) → is_live w ≡ b → b ≡ true
      by_live true l = refl
      by_live false l = let n = (f.clock.tables_empty (Rattle.law_handles.proofs.ServingWorld.bare w f.clock.phase_table.whole l)).high in absurd (cc)

  pub live_normal : (p : Post) (rest : List Post) → w.ioc.normal ≡ p ∷ rest → is_live w ≡ true
  live_normal p rest e = by_live (is_live w) refl
    where
      by_live : (b : Bool) → is_live w ≡ b → b ≡ true
      by_live true l = refl
      by_live false l = let n = (f.clock.tables_empty (Rattle.law_handles.proofs.ServingWorld.bare w f.clock.phase_table.whole l)).normal in absurd (cc)

-- where the fabric is on, the disks were asked for; and where they weren't, it is off
pub asked_when_on : (w : World) → FabricOff w → is_live w ≡ true → w.fabric.on ≡ true → has_asked w ≡ true
asked_when_on w off l o = by_asked (has_asked w) refl
  where
    by_asked : (b : Bool) → has_asked w ≡ b → b ≡ true
    by_asked true a = refl
    by_asked false a = let d : is_dark w ≡ true = grind (arith, l, a) in let z = (off.dark d).on in absurd (cc)

pub dark_when_off : (w : World) → FabricOff w → is_live w ≡ true → w.fabric.on ≡ false → is_dark w ≡ true
dark_when_off w off l o = by_asked (has_asked w) refl
  where
    by_asked : (b : Bool) → has_asked w ≡ b → is_dark w ≡ true
    by_asked true a = let z = off.lit l a in absurd (cc)
    by_asked false a = grind (arith, l, a)
