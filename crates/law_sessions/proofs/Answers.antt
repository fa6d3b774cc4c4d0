-- The numbers of a session: the talk of submitters and host accepts and answers none.
use Rattle.std.proofs.Common.{◌≡◌, ℕ, ◌+◌, Bool, true, false, not, cond, if◌then◌else◌, List, [], ◌∷◌, refl, ap, sym, subst, ◌∙◌, arith}
use Rattle.std.specs.Prelude.{count_by}
use Rattle.std.proofs.lemmas.List.Elements.{filter-append}
use Rattle.std.proofs.lemmas.List.Sums.{sum_by-cons}
use Rattle.mpt_trace.specs.declared.entry.Entry.{Entry}
use Rattle.mpt_trace.specs.declared.entry.Entry.TheVariants as entry
use Rattle.mpt_wire.specs.Queues.Lanes.{LanesInOrder}
use Rattle.mpt_rules.specs.Host.Parts.{Host}
use Rattle.mpt_rules.specs.Host.Takes.{host_waits}
use Rattle.mpt_rules.specs.Law.{AllAreAnswered, AnsweredAtMostOnce, is_accept, is_answer}
use Rattle.mpt_rules.specs.Session.Sessions.{EndsQuiet, IsSession, Session, session_trace}
use Rattle.mpt_rules.specs.World.Cases.{trace}
use Rattle.mpt_rules.specs.World.Settings.{Setting, first_world}
use Rattle.law_parties.proofs.AnsweredOnce.{answered_law, waits_answered}
use Rattle.law_sessions.specs.OfCases.{is_talk, without_talk}
use Rattle.law_sessions.proofs.OfCases.{of_cases_law}

module _ (test : Entry → Bool) (none : (e : Entry) → is_talk e ≡ true → test e ≡ false) where
  counted : (e : Entry) (t : List Entry) → count_by test (e ∷ t) ≡ cond (test e) 1 0 + count_by test t
  counted e t = sum_by-cons (λ (x : Entry). cond (test x) 1 0) e t

  count_talk : (t : List Entry) → count_by test (without_talk t) ≡ count_by test t
  count_talk [] = refl
  count_talk (e ∷ t) = by_talk (is_talk e) refl (count_talk t)
    where
      by_talk : (b : Bool) → is_talk e ≡ b → count_by test (without_talk t) ≡ count_by test t → count_by test (if not b then e ∷ without_talk t else without_talk t) ≡ count_by test (e ∷ t)
      by_talk true q ih =
          let c = counted e t in
          let z = ap (λ (b : Bool). cond b 1 0 + count_by test t) (none e q) in
          omega (arith, c, z, ih)
      by_talk false q ih =
          let c = counted e t in
          let d = counted e (without_talk t) in
          omega (arith, c, d, ih)

accepts_none : (n : ℕ) (e : Entry) → is_talk e ≡ true → is_accept n e ≡ false
accepts_none n (entry.Accept k address smid) h = absurd (cc)
accepts_none n _ h = refl

answers_none : (n : ℕ) (e : Entry) → is_talk e ≡ true → is_answer n e ≡ false
answers_none n (entry.Answer k outcome) h = absurd (cc)
answers_none n _ h = refl

-- the counts without talk are the counts
answered_with_talk : (t : List Entry) → AllAreAnswered (without_talk t) → AllAreAnswered t
answered_with_talk t h n =
    let a = count_talk (is_accept n) (accepts_none n) t in
    let b = count_talk (is_answer n) (answers_none n) t in
    let e = h n in
    omega (arith, a, b, e)

pub session_answered : (s : Setting) (x : Session) → IsSession s x → LanesInOrder (session_trace s x) → AnsweredAtMostOnce s (session_trace s x)
session_answered s x h lanes =
    let o = of_cases_law s x h lanes in
    let law = answered_law s o.0 in
    let traced : without_talk (session_trace s x) ≡ trace (first_world s) o.0 = o.1.traced in
    record {
      accepted = λ n.
          let a = count_talk (is_accept n) (accepts_none n) (session_trace s x) in
          let e = ap (count_by (is_accept n)) traced in
          let m = law.accepted n in
          omega (arith, a, e, m);
      answered = λ n.
          let a = count_talk (is_answer n) (answers_none n) (session_trace s x) in
          let e = ap (count_by (is_answer n)) traced in
          let m = law.answered n in
          omega (arith, a, e, m);
      at_reset = λ before after is.
          answered_with_talk before
          (law.at_reset (without_talk before) (without_talk after) (sym traced ∙ (ap without_talk is ∙ filter-append (λ (e : Entry). not (is_talk e)) before (entry.ResetDone ∷ after))));
    }

pub session_all_answered : (s : Setting) (x : Session) → IsSession s x → LanesInOrder (session_trace s x) → EndsQuiet s x → AllAreAnswered (session_trace s x)
session_all_answered s x h lanes quiet =
    let o = of_cases_law s x h lanes in
    answered_with_talk (session_trace s x)
    (subst AllAreAnswered (sym o.1.traced) (waits_answered s o.0 (subst (λ (host : Host). host_waits host ≡ false) o.1.host quiet.waits)))
