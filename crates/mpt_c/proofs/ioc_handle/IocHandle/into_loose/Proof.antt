-- `into_loose` is nothing at null, and else has what the handle owned.
use Rattle.std.proofs.Common.{◌≡◌, List, [], ◌∷◌, ◌++◌, refl, sym, subst, Option, Some, None, lit<}
use mir.Val.{Val, vptr, vnil, vcons}
use mir.Raw.{raw as bare}
use base.Logic.{SProp, ent, id⊢, emp, never, via, fst∗, snd∗, guard_i}
use base.Fml.{ftrue}
use prog.Wp.{WpFn}
use seplogic.Ra.Ura.{Ura}
use types.Logic.{Logic, sem}
use types.Kit.{Sq, prop, at_ret, ‵, raw, ◌⊛◌, given, ◌$◌, ◌∵◌, !, qed, by, move, keep, split, fsplit, fsplit3, fjoin, feq_l, learn, suffices, regoal, use0, use1}
use types.Run.{stop, fld, of_opd, bin, lit, no_more, and_then, first, branches, exec, returns, enter}
use types.ByLocal.{alloc_all, pass_all, free_all, look_at, get, get_in, sets, sets_last, env}
use types.Match.{live}
use types.Part.{agg, sub, whole}
use contract.Monad.{fact, fact_i, fact_use}
use contract.Running.{tables}
use denote.Exit.{yes}
use denote.Memory.{lone}
use denote.Param.{layout}
use denote.RattleType.{RattleType, owns}
use denote.Signature.{types_at, plain}
use denote.RawPtr.{Ptr, block_ptr, null_ptr, in_a_block, Testable, tests_null}
use denote.Steps.{nothing}
use denote.Triple.Walked.{Stays, stay_dropped, walk_of, Goes-dropped}
use Rattle.std.proofs.raw_atomic.Walks.{proved_at, leaves}
use Rattle.std.proofs.GlobalToken.{dealloc_token-Testable}
use Rattle.std.proofs.alloc.Calls.{handle_tells}
use Rattle.std.proofs.cell.Inside.{Good}
use Rattle.std.proofs.option.Made.{Some-of, none_of}
use Rattle.std.proofs.ResultValues.{and_tt}
use Rattle.std.specs.Box.Ownership.{box_owns}
use Rattle.std.specs.Ptr.{points_to}
use Rattle.std.specs.contracts.option.Option as option
use Rattle.std.specs.contracts.alloc.Global as heap
use Rattle.std.proofs.alloc.Global.TheLaws as heap_laws
use Rattle.std.specs.contracts.impls.GlobalAllocator.TheImpl.{ghosts}
use Rattle.ioc_core.specs.contracts.ioc.Ioc as inside
use Rattle.mpt_c.specs.contracts.ioc_handle.IocHandle as handle
use Rattle.mpt_c.specs.Holding.{holds}
use Rattle.mpt_c.proofs.Values.{word, both, Kept, al, loose_good, loose_in}
use Rattle.mpt_c.proofs.IocData.{told}
use Rattle.mpt_c.specs.contracts.ioc_handle.IocHandle.into_loose as f
use Rattle.mpt_c.proofs.ioc_handle.IocHandle.into_loose.Statement.{statement}
use Rattle.mpt_c.proofs.ioc_handle.IocHandle.into_loose.Code as code

abbrev R : RattleType
R = inside.the_row

abbrev Z : RattleType
Z = heap.the_row

abbrev Back : RattleType
Back = option.the_row (Kept R Z heap_laws.the_row_laws ghosts)

-- what owns a box may be compared with null
tested : {M : Type 1} {𝓤 : Ura M} (𝓛 : Logic 𝓤) (a : Z.Denot) (p : Ptr) (x : R.Denot)
    → ent 𝓤 (sem 𝓛 (box_owns (ghosts.dealloc_token a) R p x)) (base.Logic.guard 𝓤 (Testable p) (sem 𝓛 (box_owns (ghosts.dealloc_token a) R p x)))
tested {𝓤 = 𝓤} 𝓛 a p x =
    let B : SProp 𝓤 = sem 𝓛 (box_owns (ghosts.dealloc_token a) R p x) in
    fact_use 𝓤 (Testable p) (via 𝓤 _ (snd∗ 𝓤 (sem 𝓛 (points_to R p x)) (sem 𝓛 (ghosts.dealloc_token a (bare (lone R.mir)) p))) (dealloc_token-Testable 𝓛 a (bare (lone R.mir)) p)) (guard_i 𝓤 (Testable p) B)

pub into_loose_spec : {M : Type 1} → statement M
into_loose_spec 𝓤 𝓛 𝓜 𝓡 wired =
    let H = 𝓛.H in let 𝓣 = tables 𝓤 H 𝓜 𝓡 𝓡.env in let c = f.clauses 𝓛 𝓜.mem 𝓡.returns in let En = f.ended in let LZ = heap_laws.the_row_laws in let Lr : RattleType = Kept R Z LZ ghosts in
    let hs : Stays En.signature.params En.kept = (stay_dropped (plain (λ _. handle.the_row)) yes, (stay_dropped (plain (λ _. Z)) yes, tt)) in
    proved_at 𝓛 En hs c 𝓜 𝓡 (Goes-dropped 𝓛 0 (plain (λ _. handle.the_row)) yes (λ κs x g. refl), (Goes-dropped 𝓛 0 (plain (λ _. Z)) yes (λ κs x g. refl), tt)) f.Key.name code.function (code.unfolded 𝓤 H 𝓜 𝓡 wired) (λ z are.
    let d = z.0.3.0 in let a = z.0.3.1.0 in let Post : Val → SProp 𝓤 = (walk_of 𝓛 En hs c).post z in let Run : List Val → SProp 𝓤 = λ ws. WpFn 𝓤 H 𝓣.C 𝓣.Λ code.function ws Post in
    -- by what the handle holds
    let each : (p : Ptr) (o : Option R.Denot) (h : Val) → Good (layout Z) h → d.value ≡ o → Sq 𝓛 (‵ (holds R p o) ∷ ‵ (Z.own_val a (h ∷ [])) ∷ ‵ ftrue ∷ []) (prop (Run (word p ∷ h ∷ []))) =
    λ p o. elim o as (λ o. (h : Val) → Good (layout Z) h → d.value ≡ o → Sq 𝓛 (‵ (holds R p o) ∷ ‵ (Z.own_val a (h ∷ [])) ∷ ‵ ftrue ∷ []) (prop (Run (word p ∷ h ∷ [])))) [
      | None ↦ λ h fits is. feq_l ! (λ e. regoal ! (λ (q : Ptr). prop (Run (word q ∷ h ∷ []))) e refl $
          enter ! 𝓣.C 𝓣.Λ code.function (word null_ptr ∷ h ∷ []) Post $ alloc_all ! (λ l. pass_all ! refl ((tt, (record { fits = lit< tt }, tt)), (fits, tt)) $
          sets ! (of_opd ! (get_in ! (fld ! refl (stop !)) (sub ! 0 refl (whole !)))) refl (tt, record { fits = lit< tt }) $
          sets ! (bin ! (get ! refl) (lit ! tt) (tests_null null_ptr (lit< tt))) refl (tt, tt) $
          first ! $ branches ! (get ! refl)
          (λ t. sets_last ! (agg ! (and_then ! (lit ! tt) (no_more !))) refl (tt, (record { fits = lit< tt }, tt)) $
          exec ! 𝓣.C 𝓣.Λ (env code.Mir.locals l) code.Mir.t-4 (at_ret (env code.Mir.locals l) Post) $
          sets ! (of_opd ! (get ! refl)) refl (tt, (record { fits = lit< tt }, tt)) $
          returns ! (look_at ! 0 refl) $ free_all ! refl $
          use0 𝓛 (‵ (Back.own_val None (live 0 vnil ∷ []))) (none_of 𝓛 Lr) $
          use0 𝓛 (raw (fact 𝓤 (None ≡ d.value))) (fact_i 𝓤 (None ≡ d.value) (emp 𝓤) (sym is)) $ nothing ! $ nothing ! $ fjoin ! $ nothing ! $ fjoin ! $
          keep ! (4 ∷ 0 ∷ 2 ∷ 1 ∷ []) $ by ! (leaves 𝓛 En hs c z (live 0 vnil) None (tt, (tt, tt)) (tt, (tt, tt))))
          (λ t. absurd t)))
      | Some x ↦ λ h fits is. in_a_block ! p (λ q. box_owns (ghosts.dealloc_token a) R q x) (fst∗ 𝓤 (never 𝓤) (sem 𝓛 (ghosts.dealloc_token a (bare (lone R.mir)) null_ptr))) (λ b o' e.
          regoal ! (λ (q : Ptr). prop (Run (word q ∷ h ∷ []))) e refl $
          use1 𝓛 (given (Testable (block_ptr b o')) (‵ (box_owns (ghosts.dealloc_token a) R (block_ptr b o') x))) (tested 𝓛 a (block_ptr b o') x) $ learn ! (λ may.
          let w : Val = both (vptr b o') h in let typed = loose_good R Z LZ ghosts b o' h fits in let back : Val = live 1 (vcons w vnil) in
          let held : Good (layout Back) back = (and_tt _ typed.0, (record { fits = lit< tt }, (typed.1, tt))) in let l₀ : Lr.Denot = record { ptr = block_ptr b o'; alloc = a; value = x } in
          enter ! 𝓣.C 𝓣.Λ code.function (word (block_ptr b o') ∷ h ∷ []) Post $ alloc_all ! (λ l. pass_all ! refl ((tt, (tt, tt)), (fits, tt)) $
          sets ! (of_opd ! (get_in ! (fld ! refl (stop !)) (sub ! 0 refl (whole !)))) refl (tt, tt) $
          sets ! (bin ! (get ! refl) (lit ! tt) (tests_null (block_ptr b o') may)) refl (tt, tt) $
          first ! $ branches ! (get ! refl)
          (λ t. absurd t)
          (λ t. sets ! (of_opd ! (get ! refl)) refl (tt, tt) $ sets ! (agg ! (and_then ! (get ! refl) (and_then ! (get ! refl) (no_more !)))) refl typed $
          sets_last ! (agg ! (and_then ! (lit ! tt) (and_then ! (get ! refl) (no_more !)))) refl held $
          exec ! 𝓣.C 𝓣.Λ (env code.Mir.locals l) code.Mir.t-4 (at_ret (env code.Mir.locals l) Post) $
          sets ! (of_opd ! (get ! refl)) refl held $
          returns ! (look_at ! 0 refl) $ free_all ! refl $
          loose_in R Z LZ ghosts ! b o' h a x $ use1 𝓛 (‵ (Back.own_val (Some l₀) (back ∷ []))) (Some-of 𝓛 Lr l₀ w) $
          use0 𝓛 (raw (fact 𝓤 (Some x ≡ d.value))) (fact_i 𝓤 (Some x ≡ d.value) (emp 𝓤) (sym is)) $ nothing ! $ nothing ! $ fjoin ! $ nothing ! $ fjoin ! $
          keep ! (3 ∷ 0 ∷ 2 ∷ 1 ∷ []) $ by ! (leaves 𝓛 En hs c z back (Some l₀) (tt, (tt, tt)) (tt, (tt, tt)))))))
    ] in
    qed 𝓛 ((‵ ftrue ⊛ ‵ (owns (types_at En.signature.params z.0.0) z.0.3 z.0.4)) ∷ ‵ ftrue ∷ []) ∵ split ! $ move ! (1 ∷ []) $ fsplit3 ! $ move ! (1 ∷ []) $
    handle_tells (al R Z LZ ghosts) ! a z.0.4.1.0 (λ h ea fits. move ! (1 ∷ []) $ fsplit ! $ keep ! (1 ∷ 2 ∷ 4 ∷ []) $
    suffices ! (Run (word d.at ∷ h ∷ [])) (subst (λ (us : List Val). ent 𝓤 (Run (word d.at ∷ h ∷ [])) (Run us)) (sym (λ i. told d.at z.0.4.0 are.0.0 i ++ (ea i ++ []))) (id⊢ 𝓤 (Run (word d.at ∷ h ∷ [])))) $
    each d.at d.value h fits refl))
