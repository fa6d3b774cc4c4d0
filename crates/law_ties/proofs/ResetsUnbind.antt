-- `unbind all` stands right behind each taking of a write that begins a reset, and nowhere else.
use Rattle.std.proofs.Common.{◌≡◌, ℕ, zero, suc, ◌*◌, ◌<◌, ◌==◌, ◌&&◌, ◌||◌, not, Bool, true, false, List, [], ◌∷◌, bit_and, refl, ap, sym, ◌∙◌, subst, arith}
use Rattle.std.specs.Int.{bit_at}
use Rattle.std.proofs.lemmas.Nat.Bits.{and_pow, bit_at-lt}
use Rattle.mpi_doorbell.specs.Bytes.{has}
use Rattle.mpi_doorbell.specs.DoorRegisters.{register_written}
use Rattle.mpi_doorbell.specs.declared.effect.Effect.{Effect}
use Rattle.mpi_doorbell.specs.declared.effect.Effect.TheVariants as effect
use Rattle.mpi_doorbell.specs.declared.registers.TheConstants.{DIAG_RESET_ADAPTER, DOORBELL, HOST_DIAGNOSTIC}
use Rattle.mpt_wire.specs.Messages.Registers.{has_bit, is_reset_write, is_unbind_all}
use Rattle.mpt_wire.specs.Walks.Passes.{EachEntry, Passes, state_after}
use Rattle.mpt_trace.specs.declared.entry.Entry.{Entry}
use Rattle.mpt_trace.specs.declared.entry.Entry.TheVariants as entry
use Rattle.mpt_trace.specs.declared.item.Down.{Down}
use Rattle.mpt_trace.specs.declared.item.Down.TheVariants as down
use Rattle.mpt_trace.specs.declared.item.Item.TheVariants as item
use Rattle.mpt_trace.specs.declared.item.Up.{Up}
use Rattle.mpt_trace.specs.declared.lane.LaneName.TheVariants as lane
use Rattle.mpt_rules.specs.Host.Doorbell.{is_reset_item, unit_reset_dword}
use Rattle.mpt_rules.specs.Ioc.Registers.{after_effect}
use Rattle.mpt_rules.specs.Ioc.Takes as adapter
use Rattle.mpt_rules.specs.Law.{NothingIsStrange}
use Rattle.mpt_rules.specs.World.Cases.{Case, entries}
use Rattle.mpt_rules.specs.World.Counts.{how_many}
use Rattle.mpt_rules.specs.World.State.{World, up_lane}
use Rattle.mpt_rules.proofs.Counts.{how_many-append}
use Rattle.law_facts.specs.Facts.{Facts}
use Rattle.law_facts.specs.History.{History}
use Rattle.law_facts.specs.Words.{is_stray_reset}
use Rattle.law_flights.specs.Given.{Resets}
use Rattle.law_moves.proofs.CasesTold.{OwesTold, kept_told}
use Rattle.law_moves.proofs.Counted.{false_by_none, how_many-cons}
use Rattle.law_moves.proofs.Registers.{writes_are}
use Rattle.law_doors.proofs.DoorsKept.{resets_heeded}
use Rattle.law_ties.specs.Shown.{ResetsUnbind}
use Rattle.law_ties.proofs.Steady.{IsSteady, steady_back, steady_input, steady_item, steady_plug, steady_work}

-- ---- the rule

abbrev due_next : Bool → Entry → Bool
due_next due e = is_reset_write e

abbrev DueAsks : Bool → Entry → Type 0
DueAsks due e = is_unbind_all e ≡ due

steady_test : (e : Entry) → IsSteady e → (is_unbind_all e ≡ false) × (is_reset_write e ≡ false)
steady_test (entry.Put l i) h = absurd h
steady_test (entry.Take l i) h = absurd h
steady_test entry.UnbindAll h = absurd h
steady_test (entry.Given i) h = (refl, refl)
steady_test (entry.Refuse call cause) h = (refl, refl)
steady_test (entry.Idle x) h = (refl, refl)
steady_test (entry.Bind handle address plug) h = (refl, refl)
steady_test (entry.Unbind handle) h = (refl, refl)
steady_test (entry.Run address tag) h = (refl, refl)
steady_test entry.HostUp h = (refl, refl)
steady_test (entry.Ready address handle) h = (refl, refl)
steady_test (entry.Lost address handle) h = (refl, refl)
steady_test (entry.Accept n address smid) h = (refl, refl)
steady_test (entry.RefuseSubmit n cause) h = (refl, refl)
steady_test (entry.Answer n outcome) h = (refl, refl)
steady_test (entry.AbortEnd n outcome) h = (refl, refl)
steady_test (entry.TargetEnd address outcome) h = (refl, refl)
steady_test entry.ResetDone h = (refl, refl)

steady : (t : List Entry) → EachEntry IsSteady t → ResetsUnbind t
steady [] h = record { passes = tt; done = refl }
steady (e ∷ t) h =
    let s = steady_test e h.0 in
    let r = steady t h.1 in
    record { passes = (s.0, subst (λ b. Passes due_next DueAsks b t) (sym s.1) r.passes); done = subst (λ b. state_after due_next b t ≡ false) (sym s.1) r.done }

behind : (e : Entry) (t : List Entry) → is_unbind_all e ≡ false → is_reset_write e ≡ false → EachEntry IsSteady t → ResetsUnbind (e ∷ t)
behind e t u r h = let s = steady t h in record { passes = (u, subst (λ b. Passes due_next DueAsks b t) (sym r) s.passes); done = subst (λ b. state_after due_next b t ≡ false) (sym r) s.done }

-- ---- the two tests of a write

has_it : (value : ℕ) → has_bit value DIAG_RESET_ADAPTER ≡ has value DIAG_RESET_ADAPTER
has_it value = by_bit (bit_at value 2) (and_pow value 2) (bit_at-lt value 2)
  where
    at : (m : ℕ) → bit_and value DIAG_RESET_ADAPTER ≡ m → (m == 4) ≡ not (m == 0) → has_bit value DIAG_RESET_ADAPTER ≡ has value DIAG_RESET_ADAPTER
    at m e t = ap (λ k. k == 4) e ∙ (t ∙ ap (λ k. not (k == 0)) (sym e))

    by_bit : (b : ℕ) → bit_and value DIAG_RESET_ADAPTER ≡ b * 4 → b < 2 → has_bit value DIAG_RESET_ADAPTER ≡ has value DIAG_RESET_ADAPTER
    by_bit zero e l = at 0 e refl
    by_bit (suc zero) e l = at 4 e refl
    by_bit (suc (suc b)) e l = absurd (omega (arith, l))

same_test : (reg value : ℕ) → is_reset_write (entry.Take lane.Down (item.Down (down.Write reg value))) ≡ is_reset_item (down.Write reg value)
same_test reg value = ap (λ b. ((reg == HOST_DIAGNOSTIC) && b) || ((reg == DOORBELL) && (value == unit_reset_dword))) (has_it value)

-- ---- each case

module _ (w : World) (h : History) (f : Facts w h) (plain : NothingIsStrange w) where
  begins : (reg value : ℕ) (rest : List Down) → w.down ≡ down.Write reg value ∷ rest → Resets (register_written w.ioc.door reg value).effect → is_reset_item (down.Write reg value) ≡ true
  begins reg value rest e r =
      let st = f.clock.one_reset_write.strays in
      let sa = how_many-append is_stray_reset w.down w.host.out in
      let sc = ap (how_many is_stray_reset) e in
      let sd = how_many-cons is_stray_reset (down.Write reg value) rest in
      let no = false_by_none (is_stray_reset (down.Write reg value)) (omega (arith, st, sa, sc, sd)) in
      first (is_reset_item (down.Write reg value)) (is_stray_reset (down.Write reg value)) no ((writes_are w.ioc.door reg value f.doorbell.sound.waits).resets r)
    where
      first : (c d : Bool) → d ≡ false → (c || d) ≡ true → c ≡ true
      first true d e f = refl
      first false d e f = let z : false ≡ true = sym e ∙ f in absurd (cc)

  -- a write that doesn't reset is none that begins a reset
  no_reset : (reg value : ℕ) (rest : List Down) → w.down ≡ down.Write reg value ∷ rest → (Resets (register_written w.ioc.door reg value).effect → ⊥) → is_reset_item (down.Write reg value) ≡ false
  no_reset reg value rest e n = by_test (is_reset_item (down.Write reg value)) refl
    where
      by_test : (b : Bool) → is_reset_item (down.Write reg value) ≡ b → b ≡ false
      by_test false t = refl
      by_test true t = absurd (n (resets_heeded w h f reg value rest e t))

  quietly : (reg value : ℕ) (rest : List Down) → w.down ≡ down.Write reg value ∷ rest → (Resets (register_written w.ioc.door reg value).effect → ⊥) → ResetsUnbind (entry.Take lane.Down (item.Down (down.Write reg value)) ∷ [])
  quietly reg value rest e n = behind _ [] refl (same_test reg value ∙ no_reset reg value rest e n) tt

  resetting : (reg value : ℕ) (rest : List Down) → w.down ≡ down.Write reg value ∷ rest → Resets (register_written w.ioc.door reg value).effect → ResetsUnbind (entry.Take lane.Down (item.Down (down.Write reg value)) ∷ entry.UnbindAll ∷ [])
  resetting reg value rest e r = record { passes = (refl, (sym (same_test reg value ∙ begins reg value rest e r), tt)); done = refl }

  written : (reg value : ℕ) (rest : List Down) → w.down ≡ down.Write reg value ∷ rest → (x : Effect) → (register_written w.ioc.door reg value).effect ≡ x
      → ResetsUnbind (entry.Take lane.Down (item.Down (down.Write reg value)) ∷ (after_effect (record w.ioc { door = (register_written w.ioc.door reg value).registers }) x).entries)
  written reg value rest e effect.None q = quietly reg value rest e (λ r. subst Resets q r)
  written reg value rest e (effect.Asked count bytes) q = quietly reg value rest e (λ r. subst Resets q r)
  written reg value rest e (effect.Fault code) q = quietly reg value rest e (λ r. subst Resets q r)
  written reg value rest e effect.UnitReset q = resetting reg value rest e (subst Resets (sym q) tt)
  written reg value rest e effect.AdapterReset q = resetting reg value rest e (subst Resets (sym q) tt)

  ioc_takes : (x : Down) (rest : List Down) → w.down ≡ x ∷ rest → ResetsUnbind (entry.Take lane.Down (item.Down x) ∷ (adapter.takes_down w.ioc x).entries)
  ioc_takes (down.Write reg value) rest e = written reg value rest e (register_written w.ioc.door reg value).effect refl
  ioc_takes (down.Read reg) rest e = behind _ [] refl refl tt
  ioc_takes (down.Post d g p) rest e = behind _ [] refl refl tt
  ioc_takes (down.Return address i) rest e = behind _ [] refl refl tt
  ioc_takes down.Stop rest e = behind _ [] refl refl tt

  up_taken : (queue : ℕ) (x : Up) → (is_unbind_all (entry.Take (up_lane queue) (item.Up x)) ≡ false) × (is_reset_write (entry.Take (up_lane queue) (item.Up x)) ≡ false)
  up_taken zero x = (refl, refl)
  up_taken (suc queue) x = (refl, refl)

  owed : OwesTold (λ k t. ResetsUnbind t) w
  owed =
      record {
        idles = λ c. steady (entry.Idle c ∷ []) (tt, tt);
        host_puts = λ x rest e. behind _ [] refl refl tt;
        host_takes = λ queue x rest e s. behind _ _ (up_taken queue x).0 (up_taken queue x).1 (steady_item w.host queue x);
        host_told = λ i t. steady _ (steady_input w.host i);
        host_looks = λ e. steady [] tt;
        host_stops = λ e. steady [] tt;
        no_session = steady [] tt;
        ioc_takes = ioc_takes;
        ioc_high = λ p rest e. steady _ (steady_work _ p);
        ioc_normal = λ p rest e. steady _ (steady_work _ p);
        ioc_puts_out = λ x rest e. behind _ [] refl refl tt;
        ioc_takes_back = λ x rest e. behind _ _ refl refl (steady_back w.ioc x);
        ioc_puts = λ queue y rest z e u. behind _ [] refl refl tt;
        fabric_takes = λ x rest e. behind _ [] refl refl tt;
        fabric_says = λ x rest e. steady [] tt;
        fabric_puts = λ x rest e. behind _ [] refl refl tt;
        fabric_runs = λ tag address e. steady (entry.Run address tag ∷ []) (tt, tt);
        plugs = λ address expander phy t q. steady t (steady_plug t q);
        unplugs = λ address t q. steady t (steady_plug t q);
        calms = steady [] tt;
      }

  pub unbinds : (c : Case) → ResetsUnbind (entries w c)
  unbinds c = kept_told (λ k t. ResetsUnbind t) w plain owed c
