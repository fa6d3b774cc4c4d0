-- Each case says steps that the machine allows.
use Rattle.std.proofs.Common.{◌≡◌, inl, inr, ℕ, zero, suc, true, false, List, [], ◌∷◌, ◌++◌, map, Option, Some, None, refl, ap, sym, ◌∙◌, subst, arith}
use Rattle.std.specs.FinMap as finmap
use Rattle.smid_pool.specs.Pool.{Slot, Free, Open, Parked, record_of}
use Rattle.mpt_wire.specs.Messages.Fields.{smid_in}
use Rattle.mpt_trace.specs.declared.item.Up.{Up}
use Rattle.mpt_trace.specs.declared.item.Up.TheVariants as upward
use Rattle.mpt_rules.specs.declared.request.Request.{Request}
use Rattle.mpt_rules.specs.Host.Replies.{heard_of, hears_reply_to, takes_entry, with_frame_heard}
use Rattle.mpt_rules.specs.Law.{NothingIsStrange}
use Rattle.mpt_rules.specs.World.Cases.{Case, entries}
use Rattle.mpt_rules.specs.declared.said.Said.TheVariants as said
use Rattle.mpt_rules.specs.World.Lines.{said_of, said_reply, up_line}
use Rattle.mpt_rules.specs.World.State.{World, up_on}
use Rattle.law_facts.specs.Facts.{Facts}
use Rattle.law_facts.specs.History.{History}
use Rattle.law_facts.specs.Messages.{AnswersBy, IsEvent, SaidIs}
use Rattle.law_facts.specs.Words.{slot}
use Rattle.law_machine.specs.Premises.{ResultsFit}
use Rattle.law_machine.proofs.Inputs.{seen}
use Rattle.law_machine.proofs.Lane.{head_of, heard_same, line_is, taking}
use Rattle.law_machine.proofs.Silent.{Passed}
use Rattle.law_machine.proofs.Steps.{steps_pass}
use Rattle.law_standing.specs.Written.{OutcomesFit}
use Rattle.law_standing.proofs.RepliesPass.{moved_short}
use Rattle.law_runs.proofs.Events.{event_passes}

module _ (w : World) (h : History) (facts : Facts w h) where
  -- an outcome fits, since its command does
  results_fit : OutcomesFit h → ResultsFit h
  results_fit o n r result g e =
      let z = o n result e in
      let a = z.0 in
      let b = z.1 in
      let c = z.2 in
      let m = moved_short r.command result ((facts.messages.named n).fit r g) b in
      (a, omega (arith, m), omega (arith, c))

  module _ (queue d : ℕ) (frame : Option (List ℕ)) (page sense : List ℕ) (rest : List Up) (front : up_on w queue ≡ upward.Reply d frame page sense ∷ rest) where
    abbrev Goal : ℕ → Option (List ℕ) → List ℕ → List ℕ → Type 0
    Goal q f p s = Passed (seen h) (taking q (upward.Reply d f p s) ∷ (hears_reply_to (takes_entry (with_frame_heard w.host d f) q) (smid_in d) None (heard_of d f p s)).entries)

    abbrev IsEventOf : Option (List ℕ) → Type 0
    IsEventOf (Some bytes) = IsEvent queue bytes page sense
    IsEventOf None = ⊥

    abbrev Answers : ℕ → Option (List ℕ) → Slot Request → Type 0
    Answers s f x = AnswersBy w h queue s (said_reply s f page sense) x

    no_answer : {T : Type 0} (s : ℕ) (f : Option (List ℕ)) (x : Slot Request) → record_of x ≡ None → Answers s f x → T
    no_answer s (Some f) Free n k = absurd k
    no_answer s (Some f) Parked n k = absurd k
    no_answer s None Free n k = absurd k
    no_answer s None Parked n k = absurd k
    no_answer s f (Open r) n k = absurd (cc)

    -- what is said of no identifier that is open is an event
    closed : (s : ℕ) (f : Option (List ℕ)) → record_of (slot w.host s) ≡ None → SaidIs w h queue (said_reply s f page sense) → (s ≡ 0) × IsEventOf f
    closed zero (Some f) n k = (refl, k)
    closed zero None n k = absurd k
    closed (suc s) (Some f) n k = no_answer (suc s) (Some f) (slot w.host (suc s)) n k
    closed (suc s) None n k = no_answer (suc s) None (slot w.host (suc s)) n k

    event : record_of (slot w.host (smid_in d)) ≡ None → Goal queue frame page sense
    event n =
        let c = closed (smid_in d) frame n (head_of w h facts queue d frame page sense rest front (SaidIs w h queue) (facts.messages.said queue)) in
        by_frame frame refl c.0 c.1
      where
        by_frame : (f : Option (List ℕ)) → frame ≡ f → smid_in d ≡ 0 → IsEventOf f → Goal queue frame page sense
        by_frame None e z v = absurd v
        by_frame (Some bytes) e z v =
            let q = v.0 in
            let p = v.1 in
            let s = v.2 in
            let i = v.3 in
            let more = map said_of rest ++ Rattle.std.specs.Prelude.slice_index_or w.ioc.up queue [] in
            let l : up_line w 0 ≡ said.Framed 0 bytes [] [] ∷ more = ap (up_line w) (sym q) ∙ (line_is w h facts queue d frame page sense rest front ∙ ap (λ x. x ∷ more) (said_is (smid_in d) frame page sense bytes z e p s)) in
            let same = heard_same w.host 0 d (Some bytes) in
            let go : Goal 0 (Some bytes) [] [] = elim (v.4) [
              | inl t ↦ event_passes w h facts d bytes more l (takes_entry (with_frame_heard w.host d (Some bytes)) 0) same z true i t
              | inr t ↦ event_passes w h facts d bytes more l (takes_entry (with_frame_heard w.host d (Some bytes)) 0) same z false i t
            ] in
            subst (λ x. Goal x frame page sense) (sym q) (subst (λ x. Goal 0 x page sense) (sym e) (subst (λ x. Goal 0 (Some bytes) x sense) (sym p) (subst (λ x. Goal 0 (Some bytes) [] x) (sym s) go)))
          where
            said_is : (n : ℕ) (f : Option (List ℕ)) (a b bytes : List ℕ) → n ≡ 0 → f ≡ Some bytes → a ≡ [] → b ≡ [] → said_reply n f a b ≡ said.Framed 0 bytes [] []
            said_is n f a b bytes z e p s = rw z (rw e (rw p (rw s refl)))

-- so the entries of each case pass
pub runs : (w : World) (h : History) → Facts w h → NothingIsStrange w → OutcomesFit h → (c : Case) → Passed (seen h) (entries w c)
runs w h facts plain fit c =
    steps_pass w h facts plain (results_fit w h facts fit)
    (record { event = λ queue d frame page sense rest front n. event w h facts queue d frame page sense rest front n }) c
