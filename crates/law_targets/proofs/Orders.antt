-- A controller that isn't OPERATIONAL has no order for the fabric in its outbox.
use Rattle.std.proofs.Common.{◌≡◌, Bool, true, false, List, [], ◌∷◌, refl, ap, sym, ◌∙◌, arith}
use Rattle.mpi_doorbell.specs.DoorRegisters.{is_fault}
use Rattle.mpi_doorbell.specs.declared.state.IocState.{IocState}
use Rattle.mpi_doorbell.specs.declared.state.IocState.TheVariants as ioc_state
use Rattle.mpt_trace.specs.declared.item.Back.{Back}
use Rattle.mpt_trace.specs.declared.item.Down.{Down}
use Rattle.mpt_trace.specs.declared.item.Out.{Out}
use Rattle.mpt_trace.specs.declared.item.Out.TheVariants as out
use Rattle.mpt_rules.specs.declared.post.Post.{Post}
use Rattle.mpt_rules.specs.Ioc.Parts.{Ioc, state_of}
use Rattle.mpt_rules.specs.Ioc.Steps as step
use Rattle.mpt_rules.specs.Ioc.Tables.{is_operational, is_reset}
use Rattle.mpt_rules.specs.Ioc.Takes as adapter
use Rattle.mpt_rules.specs.Law.{NothingIsStrange}
use Rattle.mpt_rules.specs.Outcome.{Happening}
use Rattle.mpt_rules.specs.World.Cases.{Case, happens}
use Rattle.mpt_rules.specs.World.Counts.{how_many}
use Rattle.mpt_rules.specs.World.Settings.{Setting, first_world}
use Rattle.mpt_rules.specs.World.State.{World}
use Rattle.mpt_rules.proofs.Counts.{how_many-append}
use Rattle.law_facts.specs.Clock.{is_live}
use Rattle.law_facts.specs.Facts.{Facts}
use Rattle.law_facts.specs.History.{History}
use Rattle.law_facts.specs.Words.{is_order}
use Rattle.law_flights.proofs.WorkLeaves.{works_leaf}
use Rattle.law_handles.proofs.ServingWorld.{bare}
use Rattle.law_lights.proofs.ClocksKept.{clocks_kept}
use Rattle.law_messages.proofs.Agreeing.{not_both}
use Rattle.law_moves.proofs.Cases.{Owes, kept}
use Rattle.law_moves.proofs.Counted.{grown-count, how_many-cons, how_many-nil}
use Rattle.law_moves.proofs.IocSpeaks as speak
use Rattle.law_moves.proofs.IocSpeaks.{CalmTold, LinkedUp, News, Speaks, Unlinked, ioc_quiet, never_out}
use Rattle.law_moves.proofs.IocTakes as leaf
use Rattle.law_moves.proofs.IocTakes.{Takes, takes}
use Rattle.law_targets.specs.Targets.{NoOrdersBeforeInit}

not_operational : {T : Type 0} (b : Bool) → b ≡ true → b ≡ false → T
not_operational b t f = not_both b f t

module _ (w : World) (h : History) (f : Facts w h) (none : NoOrdersBeforeInit w) where
  OnOrders : World → Type 0
  OnOrders v = is_fault (state_of v.ioc) ≡ false → is_live v ≡ false → how_many is_order v.ioc.out ≡ 0

  by_takes : (x : Down) (k : Ioc) → Takes w.ioc x k → is_fault (state_of k) ≡ false → is_operational (state_of k) ≡ false → how_many is_order k.out ≡ 0
  by_takes x k (leaf.Faults y m e) n l = not_both (is_fault (state_of k)) n e
  by_takes x k (leaf.Written reg value m r s e) n l = ap (λ (y : Ioc). how_many is_order y.out) e ∙ none (ap is_operational (sym s) ∙ l)
  by_takes x k (leaf.Operates value m r s t e) n l = let z : is_operational (state_of k) ≡ true = ap is_operational t in not_operational (is_operational (state_of k)) z l
  by_takes x k (leaf.Forgets reg value d e) n l = let c = how_many-cons is_order (out.Link (Rattle.mpt_rules.specs.Ioc.Resets.next_generation w.ioc)) [] in let z = how_many-nil is_order in omega (arith, c, z)
  by_takes x k (leaf.Reads reg value) n l = none l
  by_takes x k (leaf.Posts d g p m t e) n l = let z : is_operational (state_of k) ≡ true = ap (λ (y : Ioc). is_operational (state_of y)) e ∙ t in not_operational (is_operational (state_of k)) z l
  by_takes x k (leaf.DropsPost d g p e) n l = none l
  by_takes x k (leaf.Returns address index m t e) n l = let z : is_operational (state_of k) ≡ true = ap (λ (y : Ioc). is_operational (state_of y)) e ∙ t in not_operational (is_operational (state_of k)) z l
  by_takes x k (leaf.DropsReturn address index e) n l = none l
  by_takes x k leaf.Stops n l = let a = how_many-append is_order w.ioc.out (out.Stop ∷ []) in let c = how_many-cons is_order out.Stop [] in let z = how_many-nil is_order in let u = none l in omega (arith, a, c, z, u)

  -- nothing is worked where the controller isn't OPERATIONAL
  no_high : {T : Type 0} (p : Post) (rest : List Post) → w.ioc.high ≡ p ∷ rest → is_live w ≡ false → T
  no_high p rest e l = let z : p ∷ rest ≡ [] = sym e ∙ (f.clock.tables_empty (bare w f.clock.phase_table.whole l)).high in absurd (cc)

  no_normal : {T : Type 0} (p : Post) (rest : List Post) → w.ioc.normal ≡ p ∷ rest → is_live w ≡ false → T
  no_normal p rest e l = let z : p ∷ rest ≡ [] = sym e ∙ (f.clock.tables_empty (bare w f.clock.phase_table.whole l)).normal in absurd (cc)

  high : (p : Post) (rest : List Post) → w.ioc.high ≡ p ∷ rest → is_operational (state_of (step.works_on (record w.ioc { high = rest }) p).part) ≡ false → how_many is_order (step.works_on (record w.ioc { high = rest }) p).part.out ≡ 0
  high p rest e l =
      let i : Ioc = record w.ioc { high = rest } in
      let s = speak.works i i p (step.works_on i p) (works_leaf i p) (ioc_quiet speak.is_asked_out i) in
      no_high p rest e (ap (λ d. is_operational d.state) (sym s.door_is) ∙ l)

  normal : (p : Post) (rest : List Post) → w.ioc.normal ≡ p ∷ rest → is_operational (state_of (step.works_on (record w.ioc { normal = rest }) p).part) ≡ false → how_many is_order (step.works_on (record w.ioc { normal = rest }) p).part.out ≡ 0
  normal p rest e l =
      let i : Ioc = record w.ioc { normal = rest } in
      let s = speak.works i i p (step.works_on i p) (works_leaf i p) (ioc_quiet speak.is_asked_out i) in
      no_normal p rest e (ap (λ d. is_operational d.state) (sym s.door_is) ∙ l)

  by_news : (x : Back) (o : Happening Ioc) → News never_out w.ioc x o → is_operational (state_of o.part) ≡ false → how_many is_order o.part.out ≡ 0
  by_news x o (Speaks n s) l = grown-count never_out is_order w.ioc.out o.part.out (λ y t. absurd (cc)) s.sends ∙ none (ap (λ d. is_operational d.state) (sym s.door_is) ∙ l)
  by_news x o (Unlinked generation q t e) l = ap (λ (y : Happening Ioc). how_many is_order y.part.out) e ∙ none (ap (λ (y : Happening Ioc). is_operational (state_of y.part)) (sym e) ∙ l)
  by_news x o (LinkedUp generation q t r e) l = ap (λ (y : Happening Ioc). how_many is_order y.part.out) e ∙ none (by_state (state_of w.ioc) r)
    where
      by_state : (m : IocState) → is_reset m ≡ true → is_operational m ≡ false
      by_state ioc_state.Reset r = refl
      by_state ioc_state.Ready r = refl
      by_state ioc_state.Operational r = absurd (cc)
      by_state (ioc_state.Fault code) r = refl
  by_news x o (CalmTold q e) l = ap (λ (y : Happening Ioc). how_many is_order y.part.out) e ∙ none (ap (λ (y : Happening Ioc). is_operational (state_of y.part)) (sym e) ∙ l)

  taken : (x : Out) (rest : List Out) → w.ioc.out ≡ x ∷ rest → is_live w ≡ false → how_many is_order rest ≡ 0
  taken x rest e l = let z = none l in let a = ap (how_many is_order) e in let c = how_many-cons is_order x rest in omega (arith, z, a, c)

  owes : Owes OnOrders w
  unfolding OnOrders
  owes =
      record {
        host_puts = λ x rest e n l. none l;
        host_takes = λ queue x rest e y n l. none l;
        host_told = λ i c n l. none l;
        host_looks = λ e n l. none l;
        host_stops = λ e n l. none l;
        ioc_takes = λ x rest e n l. by_takes x (adapter.takes_down w.ioc x).part (takes w.ioc f.doorbell.sound.waits f.clock.phase_table.whole x) n l;
        ioc_high = λ p rest e n l. high p rest e l;
        ioc_normal = λ p rest e n l. normal p rest e l;
        ioc_puts_out = λ x rest e n l. taken x rest e l;
        ioc_takes_back = λ x rest e n l. by_news x (adapter.takes_back w.ioc x) (speak.news never_out w.ioc x) l;
        ioc_puts = λ queue y rest z e u n l. none l;
        fabric_takes = λ x rest e n l. none l;
        fabric_says = λ x rest e n l. none l;
        fabric_puts = λ x rest e n l. none l;
        fabric_runs = λ tag address e n l. none l;
        plugs = λ address expander phy n l. none l;
        unplugs = λ address n l. none l;
        calms = λ n l. none l;
      }

  pub no_orders_kept : NothingIsStrange w → (c : Case) → NoOrdersBeforeInit (happens w c)
  unfolding OnOrders
  no_orders_kept plain c l = kept OnOrders w plain owes (λ n m. none m) c (clocks_kept w h c f plain).phase_table.whole l

pub no_orders_at_first : (s : Setting) → NoOrdersBeforeInit (first_world s)
no_orders_at_first s l = how_many-nil is_order
