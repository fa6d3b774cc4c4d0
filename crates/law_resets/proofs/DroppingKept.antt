-- Each case keeps that the rule of plugs drops them while the controller is RESET, and that the view knows whether a reset goes on.
use Rattle.std.proofs.Common.{◌≡◌, ℕ, zero, suc, ◌+◌, ◌%◌, ◌^◌, ◌≤◌, ◌==◌, ◌&&◌, ◌||◌, not, if◌then◌else◌, Bool, true, false, List, [], ◌∷◌, ◌++◌, take, Option, Some, None, refl, ap, sym, ◌∙◌, subst, arith}
use Rattle.mpi_doorbell.specs.DoorRegisters.{DoorRegisters, is_fault, register_written}
use Rattle.mpi_doorbell.specs.declared.effect.Effect.{Effect}
use Rattle.mpi_doorbell.specs.declared.effect.Effect.TheVariants as effect
use Rattle.mpi_doorbell.specs.declared.state.IocState.{IocState}
use Rattle.mpi_doorbell.specs.declared.state.IocState.TheVariants as ioc_state
use Rattle.mpt_wire.specs.Handles.Bindings.{Plug}
use Rattle.mpt_wire.specs.Walks.Passes.{EachEntry, state_after}
use Rattle.mpt_wire.specs.Handles.Plugs.{Serving, plug_served, served_next}
use Rattle.mpt_trace.specs.declared.entry.Entry.{Entry}
use Rattle.mpt_trace.specs.declared.entry.Entry.TheVariants as entry
use Rattle.mpt_trace.specs.declared.item.Item.{Item}
use Rattle.mpt_trace.specs.declared.item.Item.TheVariants as item
use Rattle.mpt_trace.specs.declared.lane.LaneName.TheVariants as lane
use Rattle.mpt_trace.specs.declared.item.Back.{Back}
use Rattle.mpt_trace.specs.declared.item.Back.TheVariants as back
use Rattle.mpt_trace.specs.declared.item.Down.{Down}
use Rattle.mpt_trace.specs.declared.item.Down.TheVariants as down
use Rattle.mpt_trace.specs.declared.item.Up.{Up}
use Rattle.mpt_rules.specs.World.Cases.{Case, entries, happens}
use Rattle.mpt_rules.specs.World.Counts.{how_many, one_if}
use Rattle.mpt_rules.specs.World.FabricCounts.{is_linked, is_linked_of}
use Rattle.mpt_rules.specs.Host.Takes.{hears_up}
use Rattle.mpt_rules.specs.Host.Returns.{after_sent}
use Rattle.mpt_rules.specs.World.Inputs.{host_told}
use Rattle.mpt_rules.specs.Ioc.Takes as adapter
use Rattle.mpt_rules.specs.Ioc.Parts.{Ioc, state_of}
use Rattle.mpt_rules.specs.Ioc.Registers.{after_effect}
use Rattle.mpt_rules.specs.Ioc.Steps as step
use Rattle.mpt_rules.specs.Ioc.Tables.{faults, is_ready, is_reset}
use Rattle.mpt_rules.specs.World.Lines.{back_line}
use Rattle.mpt_rules.specs.Outcome.{Happening}
use Rattle.mpt_rules.specs.World.State.{World, up_lane}
use Rattle.law_facts.specs.Clock.{Clock, in_reset}
use Rattle.law_facts.specs.History.{History, history_after}
use Rattle.law_clock.specs.Premises.{Before, Behind}
use Rattle.law_moves.proofs.CasesTold.{IsPlugWord, OwesTold, kept_told}
use Rattle.law_moves.proofs.Counted.{how_many-cons}
use Rattle.law_moves.proofs.HostWords.{EndsIt, HostTells, IsHostWord, Words, host_tells}
use Rattle.law_moves.proofs.InputWords.{IsInputWord, any_of, input_words}
use Rattle.law_moves.proofs.IocSpeaks.{IocSpeaks, News, Speaks as SpeaksBack, Unlinked, LinkedUp, CalmTold, is_asked_out, never_out, news}
use Rattle.law_moves.proofs.IocTakes as takes
use Rattle.law_moves.proofs.IocTakes.{Takes}
use Rattle.law_moves.proofs.IocWords.{IsIocWord, back_words, works_words}
use Rattle.law_moves.proofs.Phases.{phased_of}
use Rattle.law_moves.proofs.Registers.{linked_is, writes_are}
use Rattle.law_clock.proofs.LinkKept.{linked_of, reset_is, stands_of}
use Rattle.law_clock.proofs.PhaseKept as phase
use Rattle.law_resets.proofs.SeenKept.{state_append}
use Rattle.law_clock.proofs.ValueKept.{false_true}

-- ---- what leaves it as it is

module _ {G T : Type 0} (next : G → Entry → G) (part : G → T) (Q : Entry → Type 0) (stays : (g : G) (e : Entry) → Q e → part (next g e) ≡ part g) where
  pub part_stays : (g : G) (t : List Entry) → EachEntry Q t → part (state_after next g t) ≡ part g
  part_stays g [] h = refl
  part_stays g (e ∷ t) h = part_stays (next g e) t h.1 ∙ stays g e h.0

abbrev drops : Serving → Bool
drops g = g.dropping

-- neither a reset of the controller, nor a take
abbrev IsStill : Entry → Type 0
IsStill (entry.Take l i) = ⊥
IsStill entry.UnbindAll = ⊥
IsStill _ = Unit {0}

still : (g : Serving) (e : Entry) → IsStill e → (served_next g e).dropping ≡ g.dropping
still g (entry.Bind handle address plug) h = refl
still g (entry.Unbind handle) h = refl
still g entry.HostUp h = refl
still g (entry.Ready address handle) h = refl
still g (entry.Lost address handle) h = refl
still g (entry.Answer n how) h = refl
still g (entry.AbortEnd n how) h = refl
still g (entry.TargetEnd address how) h = refl
still g (entry.Given i) h = refl
still g (entry.Idle x) h = refl
still g (entry.Put l i) h = refl
still g (entry.Take l i) h = absurd h
still g entry.UnbindAll h = absurd h
still g (entry.Run address tag) h = refl
still g (entry.Accept n address smid) h = refl
still g (entry.RefuseSubmit n cause) h = refl
still g (entry.Refuse call cause) h = refl
still g entry.ResetDone h = refl

pub each_of : {P Q : Entry → Type 0} → ((e : Entry) → P e → Q e) → (t : List Entry) → EachEntry P t → EachEntry Q t
each_of f [] h = tt
each_of f (e ∷ t) h = (f e h.0, each_of f t h.1)

host_still : (e : Entry) → IsHostWord e → IsStill e
host_still entry.HostUp h = tt
host_still (entry.Ready address handle) h = tt
host_still (entry.Lost address handle) h = tt
host_still (entry.Answer n how) h = tt
host_still (entry.AbortEnd n how) h = tt
host_still (entry.TargetEnd address how) h = tt
host_still (entry.Given i) h = tt
host_still (entry.Idle x) h = tt
host_still (entry.Put l i) h = tt
host_still (entry.Take l i) h = h
host_still (entry.Bind handle address plug) h = tt
host_still (entry.Unbind handle) h = tt
host_still entry.UnbindAll h = h
host_still (entry.Run address tag) h = tt
host_still (entry.Accept n address smid) h = tt
host_still (entry.RefuseSubmit n cause) h = tt
host_still (entry.Refuse call cause) h = tt
host_still entry.ResetDone h = tt

ioc_still : (e : Entry) → IsIocWord e → IsStill e
ioc_still (entry.Bind handle address plug) h = tt
ioc_still (entry.Unbind handle) h = tt
ioc_still (entry.Take l i) h = h
ioc_still entry.UnbindAll h = h
ioc_still entry.HostUp h = tt
ioc_still (entry.Ready address handle) h = tt
ioc_still (entry.Lost address handle) h = tt
ioc_still (entry.Answer n how) h = tt
ioc_still (entry.AbortEnd n how) h = tt
ioc_still (entry.TargetEnd address how) h = tt
ioc_still (entry.Given i) h = tt
ioc_still (entry.Idle x) h = tt
ioc_still (entry.Put l i) h = tt
ioc_still (entry.Run address tag) h = tt
ioc_still (entry.Accept n address smid) h = tt
ioc_still (entry.RefuseSubmit n cause) h = tt
ioc_still (entry.Refuse call cause) h = tt
ioc_still entry.ResetDone h = tt

plug_still : (e : Entry) → IsPlugWord e → IsStill e
plug_still (entry.Given i) h = tt
plug_still (entry.Refuse call cause) h = tt
plug_still (entry.Take l i) h = h
plug_still entry.UnbindAll h = h
plug_still (entry.Bind handle address plug) h = tt
plug_still (entry.Unbind handle) h = tt
plug_still entry.HostUp h = tt
plug_still (entry.Ready address handle) h = tt
plug_still (entry.Lost address handle) h = tt
plug_still (entry.Answer n how) h = tt
plug_still (entry.AbortEnd n how) h = tt
plug_still (entry.TargetEnd address how) h = tt
plug_still (entry.Idle x) h = tt
plug_still (entry.Put l i) h = tt
plug_still (entry.Run address tag) h = tt
plug_still (entry.Accept n address smid) h = tt
plug_still (entry.RefuseSubmit n cause) h = tt
plug_still entry.ResetDone h = tt

input_still : (e : Entry) → IsInputWord e → IsStill e
input_still = any_of IsStill (λ i. tt) (λ n a q. tt) (λ n c. tt) (λ r c. tt)

tells_still : (t : List Entry) → HostTells t → EachEntry IsStill t
tells_still t (Words w) = each_of host_still t w
tells_still t (EndsIt told w e) = subst (EachEntry IsStill) (sym e) (ended told w)
  where
    ended : (u : List Entry) → EachEntry IsHostWord u → EachEntry IsStill (u ++ entry.ResetDone ∷ [])
    ended [] h = (tt, tt)
    ended (x ∷ u) h = (host_still x h.0, ended u h.1)

after_still : (g : Serving) (t : List Entry) → EachEntry IsStill t → (state_after served_next g t).dropping ≡ g.dropping
after_still g t h = part_stays served_next drops IsStill still g t h

-- ---- takes

served_keeps : (g : Serving) (p : Plug) (o : Option ℕ) → (plug_served g p o).dropping ≡ g.dropping
served_keeps g p None = refl
served_keeps g p (Some x) = refl

took_back : (g : Serving) (x : Back) → is_linked x ≡ false → (served_next g (entry.Take lane.Back (item.Back x))).dropping ≡ g.dropping
took_back g (back.Plugged address plug expander phy) e = by_drop g.dropping refl
  where
    by_drop : (c : Bool) → g.dropping ≡ c → (Rattle.mpt_wire.specs.Handles.Plugs.plug_taken g (record { address = address; number = plug }) c).dropping ≡ g.dropping
    by_drop true f = refl
    by_drop false f = served_keeps g (record { address = address; number = plug }) (Rattle.mpt_wire.specs.Handles.Bindings.least_unbound_in g.bound)
took_back g (back.Unplugged address plug expander phy) e = refl
took_back g (back.Linked n) e = absurd (cc)
took_back g back.Calm e = refl
took_back g (back.Result tag r) e = refl
took_back g (back.Gone tag) e = refl
took_back g (back.Terminated tag) e = refl
took_back g (back.Aborted smid found) e = refl
took_back g (back.Cleared smid count) e = refl
took_back g back.Discovered e = refl

took_up : (g : Serving) (queue : ℕ) (x : Up) → (served_next g (entry.Take (up_lane queue) (item.Up x))).dropping ≡ g.dropping
took_up g zero x = refl
took_up g (suc queue) x = refl

module _ (w : World) (h : History) (b : Before w h) where
  k : Clock w h
  k = b.facts.clock

  g0 : Serving
  g0 = h.serving

  s : h.serving.dropping ≡ is_reset (state_of w.ioc)
  s = k.resets_seen.dropping ∙ reset_is w (phased_of w k.phase_table)

  abbrev Drops : Ioc → List Entry → Type 0
  Drops i t = (state_after served_next h.serving t).dropping ≡ is_reset (state_of i)

  abbrev Kept : World → List Entry → Type 0
  Kept v t = Behind v → (state_after served_next h.serving t).dropping ≡ is_reset (state_of v.ioc)

  calmly : (i : Ioc) (t : List Entry) → EachEntry IsStill t → is_reset (state_of i) ≡ is_reset (state_of w.ioc) → Drops i t
  calmly i t a e = after_still h.serving t a ∙ (s ∙ sym e)

  ready_reset : (a c : IocState) → is_ready a ≡ true → c ≡ ioc_state.Operational → is_reset c ≡ is_reset a
  ready_reset ioc_state.Ready c e f = ap is_reset f
  ready_reset ioc_state.Reset c e f = absurd (cc)
  ready_reset ioc_state.Operational c e f = absurd (cc)
  ready_reset (ioc_state.Fault code) c e f = absurd (cc)

  by_shook : (j i : Ioc) → state_of j ≡ state_of w.ioc → takes.Shook j i → is_reset (state_of i) ≡ is_reset (state_of w.ioc)
  by_shook j i g (takes.Stays a e) = ap is_reset (a ∙ g)
  by_shook j i g (takes.ComesUp a c e) = ready_reset (state_of j) (state_of i) a c ∙ ap is_reset g

  writes : (reg value : ℕ) (f : Effect) → (register_written w.ioc.door reg value).effect ≡ f → is_fault (state_of (after_effect (record w.ioc { door = (register_written w.ioc.door reg value).registers }) f).part) ≡ false
      → (state_after served_next (served_next h.serving (entry.Take lane.Down (item.Down (down.Write reg value)))) (after_effect (record w.ioc { door = (register_written w.ioc.door reg value).registers }) f).entries).dropping
      ≡ is_reset (state_of (after_effect (record w.ioc { door = (register_written w.ioc.door reg value).registers }) f).part)
  writes reg value effect.None q z = s ∙ sym (ap is_reset (writes_are w.ioc.door reg value b.facts.doorbell.sound.waits).state)
  writes reg value (effect.Asked count bytes) q z = s ∙ sym (by_shook (record w.ioc { door = (register_written w.ioc.door reg value).registers }) _ (writes_are w.ioc.door reg value b.facts.doorbell.sound.waits).state (takes.shook (record w.ioc { door = (register_written w.ioc.door reg value).registers }) (take count bytes)))
  writes reg value effect.UnitReset q z = refl
  writes reg value effect.AdapterReset q z = refl
  writes reg value (effect.Fault code) q z = absurd (cc)

  by_leaf : (x : Down) (i : Ioc) → ((reg value : ℕ) → x ≡ down.Write reg value → ⊥) → Takes w.ioc x i → is_fault (state_of i) ≡ false → h.serving.dropping ≡ is_reset (state_of i)
  by_leaf x i never (takes.Faults y j f) z = absurd (cc)
  by_leaf x i never (takes.Written reg value j nr st sa) z = absurd (never reg value refl)
  by_leaf x i never (takes.Operates value j nr r st sa) z = absurd (never _ value refl)
  by_leaf x i never (takes.Forgets reg value d r) z = absurd (never reg value refl)
  by_leaf x i never (takes.Reads reg value) z = s
  by_leaf x i never (takes.Posts d f p j o sa) z = s ∙ sym (ap (λ (y : Ioc). is_reset (state_of y)) sa)
  by_leaf x i never (takes.DropsPost d f p o) z = s
  by_leaf x i never (takes.Returns address index j o sa) z = s ∙ sym (ap (λ (y : Ioc). is_reset (state_of y)) sa)
  by_leaf x i never (takes.DropsReturn address index o) z = s
  by_leaf x i never takes.Stops z = s

  leaf : (x : Down) → Takes w.ioc x (adapter.takes_down w.ioc x).part
  leaf x = takes.takes w.ioc b.facts.doorbell.sound.waits k.phase_table.whole x

  ioc_takes : (x : Down) → is_fault (state_of (adapter.takes_down w.ioc x).part) ≡ false → Drops (adapter.takes_down w.ioc x).part (entry.Take lane.Down (item.Down x) ∷ (adapter.takes_down w.ioc x).entries)
  ioc_takes (down.Write reg value) z = writes reg value (register_written w.ioc.door reg value).effect refl z
  ioc_takes (down.Read reg) z = by_leaf (down.Read reg) (adapter.takes_down w.ioc (down.Read reg)).part (λ r v e. cc) (leaf (down.Read reg)) z
  ioc_takes (down.Post d f p) z = by_leaf (down.Post d f p) (adapter.takes_down w.ioc (down.Post d f p)).part (λ r v e. cc) (leaf (down.Post d f p)) z
  ioc_takes (down.Return a i) z = by_leaf (down.Return a i) (adapter.takes_down w.ioc (down.Return a i)).part (λ r v e. cc) (leaf (down.Return a i)) z
  ioc_takes down.Stop z = by_leaf down.Stop (adapter.takes_down w.ioc down.Stop).part (λ r v e. cc) (leaf down.Stop) z

  -- a link that comes is this reset's
  linked_now : (n : ℕ) (rest : List Back) → w.back ≡ back.Linked n ∷ rest → (is_reset (state_of w.ioc) ≡ true) × ((n == w.ioc.generation) ≡ true)
  linked_now n rest e =
      let l = stands_of w (phased_of w k.phase_table) k.one_link in
      let one = l.one in let this = l.this in
      let f : back_line w ≡ back.Linked n ∷ (rest ++ w.fabric.out) = ap (λ xs. xs ++ w.fabric.out) e in
      let a = ap (how_many is_linked) f in let a1 = how_many-cons is_linked (back.Linked n) (rest ++ w.fabric.out) in
      let c = ap (how_many (is_linked_of w.ioc.generation)) f in let c1 = how_many-cons (is_linked_of w.ioc.generation) (back.Linked n) (rest ++ w.fabric.out) in
      let u = Rattle.law_moves.proofs.Counted.fewer_pass (is_linked_of w.ioc.generation) is_linked (linked_of w.ioc.generation) (rest ++ w.fabric.out) in
      let v = Rattle.law_moves.proofs.Counted.fewer_pass (Rattle.mpt_rules.specs.World.FabricCounts.is_link_of w.ioc.generation) Rattle.mpt_rules.specs.World.FabricCounts.is_link (Rattle.law_clock.proofs.LinkKept.link_of w.ioc.generation) (Rattle.mpt_rules.specs.World.Lines.out_line w) in
      (by_reset (is_reset (state_of w.ioc)) refl (omega (arith, one, a, a1)), by_number (n == w.ioc.generation) refl (omega (arith, one, this, a, a1, c, c1, u, v)))
    where
      by_reset : (c : Bool) → is_reset (state_of w.ioc) ≡ c → 1 ≤ one_if (is_reset (state_of w.ioc)) → c ≡ true
      by_reset true g l = refl
      by_reset false g l = let z : one_if (is_reset (state_of w.ioc)) ≡ 0 = ap one_if g in absurd (omega (arith, z, l))

      by_number : (c : Bool) → (n == w.ioc.generation) ≡ c → 1 ≤ one_if (n == w.ioc.generation) → c ≡ true
      by_number true g l = refl
      by_number false g l = let z : one_if (n == w.ioc.generation) ≡ 0 = ap one_if g in absurd (omega (arith, z, l))

  told : (x : Back) (rest : List Back) (o : Happening Ioc) → w.back ≡ x ∷ rest → News never_out w.ioc x o → (served_next h.serving (entry.Take lane.Back (item.Back x))).dropping ≡ is_reset (state_of o.part)
  told x rest o e (SpeaksBack l q) = took_back h.serving x l ∙ (s ∙ sym (ap (λ d. is_reset d.state) q.door_is))
  told x rest o e (Unlinked n i z f) =
      let y = linked_now n rest (subst (λ t. w.back ≡ t ∷ rest) i e) in
      absurd (both (is_reset (state_of w.ioc)) (n == w.ioc.generation) y.0 y.1 z)
    where
      both : (a c : Bool) → a ≡ true → c ≡ true → (a && c) ≡ false → ⊥
      both true true e f g = cc
      both true false e f g = cc
      both false c e f g = cc
  told x rest o e (LinkedUp n i g r f) =
      ap (λ t. (served_next h.serving (entry.Take lane.Back (item.Back t))).dropping) i
      ∙ sym (ap (λ (y : Happening Ioc). is_reset (state_of y.part)) f ∙ ap is_reset (linked_is w.ioc.door b.facts.doorbell.sound.hold))
  told x rest o e (CalmTold i f) = ap (λ t. (served_next h.serving (entry.Take lane.Back (item.Back t))).dropping) i ∙ (s ∙ sym (ap (λ (y : Happening Ioc). is_reset (state_of y.part)) f))

  ioc_takes_back : (x : Back) (rest : List Back) → w.back ≡ x ∷ rest → Drops (adapter.takes_back w.ioc x).part (entry.Take lane.Back (item.Back x) ∷ (adapter.takes_back w.ioc x).entries)
  ioc_takes_back x rest e =
      after_still (served_next h.serving (entry.Take lane.Back (item.Back x))) (adapter.takes_back w.ioc x).entries (each_of ioc_still (adapter.takes_back w.ioc x).entries (back_words w.ioc x))
      ∙ told x rest (adapter.takes_back w.ioc x) e (news never_out w.ioc x)

  worked : (i : Ioc) (t : List Entry) → EachEntry IsIocWord t → IocSpeaks is_asked_out w.ioc i → Drops i t
  worked i t a p = calmly i t (each_of ioc_still t a) (ap (λ d. is_reset d.state) p.door_is)

  put : (x : Down) (rest : List Down) → Drops w.ioc (entry.Put lane.Down (item.Down x) ∷ [])
  put x rest = s

  owes : OwesTold Kept w
  owes =
      record {
        idles = λ c v. s;
        host_puts = λ x rest e v. s;
        host_takes = λ queue x rest e y v. after_still (served_next h.serving (entry.Take (up_lane queue) (item.Up x))) (hears_up w.host queue x).entries (tells_still (hears_up w.host queue x).entries (host_tells w.host queue x)) ∙ (took_up h.serving queue x ∙ s);
        host_told = λ i t v. calmly w.ioc (host_told w.host i).entries (each_of input_still (host_told w.host i).entries (input_words w.host i)) refl;
        host_looks = λ e v. s;
        host_stops = λ e v. s;
        no_session = λ v. s;
        ioc_takes = λ x rest e v. ioc_takes x v.whole;
        ioc_high = λ p rest e v. worked (step.works_on (record w.ioc { high = rest }) p).part (step.works_on (record w.ioc { high = rest }) p).entries (works_words (record w.ioc { high = rest }) p) (phase.high_words w h b p rest);
        ioc_normal = λ p rest e v. worked (step.works_on (record w.ioc { normal = rest }) p).part (step.works_on (record w.ioc { normal = rest }) p).entries (works_words (record w.ioc { normal = rest }) p) (phase.normal_words w h b p rest);
        ioc_puts_out = λ x rest e v. s;
        ioc_takes_back = λ x rest e v. ioc_takes_back x rest e;
        ioc_puts = λ queue y rest z e u v. s;
        fabric_takes = λ x rest e v. s;
        fabric_says = λ x rest e v. s;
        fabric_puts = λ x rest e v. s;
        fabric_runs = λ tag address e v. s;
        plugs = λ address expander phy t a v. calmly w.ioc t (each_of plug_still t a) refl;
        unplugs = λ address t a v. calmly w.ioc t (each_of plug_still t a) refl;
        calms = λ v. s;
      }

  pub dropping_kept : (c : Case) → Behind (happens w c) → (history_after h (entries w c)).serving.dropping ≡ in_reset (happens w c)
  dropping_kept c v = kept_told Kept w b.plain owes c v ∙ sym (reset_is (happens w c) (phase.phase_kept w h b c v))
