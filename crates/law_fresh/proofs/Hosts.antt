-- What a host does that starts with a machine, while nothing but values comes to it.
use Rattle.std.proofs.Common.{◌≡◌, ℕ, zero, suc, ◌+◌, ◌⊎◌, inl, inr, Bool, true, false, List, [], ◌∷◌, ◌++◌, get_or, map, Option, Some, None, is_some, refl, ap, sym, ◌∙◌, subst, arith}
use Rattle.mpi_doorbell.specs.HostDoor.{HostDoor}
use Rattle.mpi_doorbell.specs.HostSteps.{next_step}
use Rattle.mpi_doorbell.specs.declared.step.DoorStep.{DoorStep}
use Rattle.mpi_doorbell.specs.declared.step.DoorStep.TheVariants as step
use Rattle.mpt_wire.specs.Machine.Causes.{is_up, is_resetting}
use Rattle.mpt_trace.specs.declared.host_state.HostState.{HostState}
use Rattle.mpt_trace.specs.declared.host_state.HostState.TheVariants as state
use Rattle.mpt_trace.specs.declared.item.Down.{Down}
use Rattle.mpt_trace.specs.declared.item.Down.TheVariants as down
use Rattle.mpt_trace.specs.declared.item.Up.{Up}
use Rattle.mpt_trace.specs.declared.item.Up.TheVariants as upward
use Rattle.mpt_rules.specs.Host.Doorbell.{turn_from}
use Rattle.mpt_rules.specs.Host.Parts.{Host}
use Rattle.mpt_rules.specs.Host.Takes.{is_starting}
use Rattle.mpt_rules.specs.World.Counts.{how_many, one_if}
use Rattle.mpt_rules.specs.World.Lines.{said_of, up_line}
use Rattle.mpt_rules.specs.World.State.{World, up_on}
use Rattle.law_facts.specs.Words.{is_load, is_off, is_reply}
use Rattle.law_moves.proofs.Counted.{how_many-cons, how_many-nil}
use Rattle.law_moves.proofs.HostGoes.{AValue, Answered, Asks, AsksNow, Hands, Heard, HostGoes, IsUp, Looks, MarkOver, MarkTaken, Same, Says, Speaking, Starts, StopsNow, Values}
use Rattle.law_moves.proofs.HostSpeaks.{ComesUp, Rises, Stays}
use Rattle.law_starts.proofs.HostAtDoor.{KeepsDoor, contrary}
use Rattle.law_fresh.specs.Bare.{StartsBare}

-- ---- modes

pub starting_is : (m : HostState) → is_starting m ≡ true → m ≡ state.Starting
starting_is state.Starting e = refl
starting_is state.Off e = absurd (cc)
starting_is state.Up e = absurd (cc)
starting_is state.Resetting e = absurd (cc)

-- a mode by which a host doesn't start
pub not_starting : {T : Type 0} (m c : HostState) → is_starting m ≡ true → m ≡ c → is_starting c ≡ false → T
not_starting m c e f n = contrary (is_starting c) n (ap is_starting (sym f) ∙ e)

pub resetting_starts : (m : HostState) → is_resetting m ≡ true → is_starting m ≡ false
resetting_starts state.Resetting e = refl
resetting_starts state.Off e = absurd (cc)
resetting_starts state.Starting e = absurd (cc)
resetting_starts state.Up e = absurd (cc)

pub up_starts : (m : HostState) → is_up m ≡ true → is_starting m ≡ false
up_starts state.Up e = refl
up_starts state.Off e = absurd (cc)
up_starts state.Starting e = absurd (cc)
up_starts state.Resetting e = absurd (cc)

-- ---- items

pub reply_said : (d : ℕ) (f : Option (List ℕ)) (page sense : List ℕ) → is_reply (said_of (upward.Reply d f page sense)) ≡ true
reply_said d None page sense = refl
reply_said d (Some f) page sense = refl

-- a turn writes registers alone
pub writes_no_loads : (n : ℕ) (d : HostDoor) (s : DoorStep) → how_many is_load (turn_from n d s).writes ≡ 0
unfolding turn_from
writes_no_loads zero d s = how_many-nil is_load
writes_no_loads (suc n) d (step.Write reg value) =
    let h = writes_no_loads n (next_step d None).door (next_step d None).step in let c = how_many-cons is_load (down.Write reg value) (turn_from n (next_step d None).door (next_step d None).step).writes in omega (arith, h, c)
writes_no_loads (suc n) d (step.Read reg) = how_many-nil is_load
writes_no_loads (suc n) d (step.Done count bytes) = how_many-nil is_load
writes_no_loads (suc n) d (step.Refused at value) = how_many-nil is_load

module _ (w : World) (n : StartsBare w) where
  -- no reply comes to such a host
  pub no_reply : {T : Type 0} → is_starting w.host.mode ≡ true → is_some w.host.machine ≡ true → (queue : ℕ) (x : Up) (rest : List Up) → up_on w queue ≡ x ∷ rest → is_reply (said_of x) ≡ true → T
  no_reply s m queue x rest e r =
      let z = (n s m).replies queue in
      let f : up_line w queue ≡ said_of x ∷ (map said_of rest ++ get_or w.ioc.up queue []) = ap (λ xs. map said_of xs ++ get_or w.ioc.up queue []) e in
      let a = ap (how_many is_reply) f in let c = how_many-cons is_reply (said_of x) (map said_of rest ++ get_or w.ioc.up queue []) in
      let o : one_if (is_reply (said_of x)) ≡ 1 = ap one_if r in
      absurd (omega (arith, z, a, c, o))

  -- so without a value it does nothing
  pub keeps_host : {t : Heard} (x : Host) → KeepsDoor w x → HostGoes w x t → (t ≡ AValue → ⊥) → is_starting x.mode ≡ true → is_some x.machine ≡ true → x ≡ w.host
  keeps_host x q g v s m = by_leaf g v
    where
      starts : is_starting w.host.mode ≡ true
      starts = by_mode q.mode_is
        where
          by_mode : (x.mode ≡ w.host.mode) ⊎ ((is_resetting w.host.mode ≡ false) × (w.host.machine ≡ None) × (x.mode ≡ state.Up)) → is_starting w.host.mode ≡ true
          by_mode (inl e) = ap is_starting (sym e) ∙ s
          by_mode (inr e) = not_starting x.mode state.Up s e.2 refl

      machine : is_some w.host.machine ≡ true
      machine = ap is_some (sym q.machine_is) ∙ m

      spoken : {c : Bool} → Speaking w c → x ≡ w.host
      spoken (IsUp u) = contrary (is_starting w.host.mode) (up_starts w.host.mode u) starts
      spoken (Answered queue d f page sense fr) = no_reply starts machine queue (upward.Reply d f page sense) fr.rest fr.is (reply_said d f page sense)

      by_leaf : {t : Heard} → HostGoes w x t → (t ≡ AValue → ⊥) → x ≡ w.host
      by_leaf (Same f) v = f
      by_leaf (Says a o en y sp) v = spoken sp
      by_leaf (Hands r y i z) v = contrary (is_starting w.host.mode) (resetting_starts w.host.mode r) starts
      by_leaf (Values r a f y) v = absurd (v refl)
      by_leaf (MarkTaken queue r f) v = contrary (is_starting w.host.mode) (resetting_starts w.host.mode r) starts
      by_leaf (MarkOver queue r a f d o t) v = contrary (is_starting w.host.mode) (resetting_starts w.host.mode r) starts
      by_leaf (Starts f t) v = not_starting w.host.mode state.Off starts f refl
      by_leaf (Asks z r o d f) v = not_starting x.mode state.Resetting s (ap (λ (y : Host). y.mode) f) refl
      by_leaf (AsksNow z c r o d e t y) v = not_starting x.mode state.Resetting s t.mode_is refl
      by_leaf (Looks u r t) v = contrary (is_starting w.host.mode) (up_starts w.host.mode u) starts
      by_leaf (StopsNow u f) v = contrary (is_starting w.host.mode) (up_starts w.host.mode u) starts
