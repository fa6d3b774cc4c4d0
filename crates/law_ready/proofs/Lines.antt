-- Of a line of items: it tells that a disk went where its binding has gone, and adds none that is there. And of entries that tell nothing of what is ready.
use Rattle.std.proofs.Common.{◌≡◌, ℕ, zero, suc, ◌+◌, ◌≤◌, ◌==◌, not, Bool, true, false, List, [], ◌∷◌, ◌++◌, get_or, map, Option, Some, None, refl, ap, sym, ◌∙◌, subst, arith}
use Rattle.std.specs.List.{list_any}
use Rattle.std.specs.FinMap as finmap
use Rattle.std.specs.FinSet as finset
use Rattle.scsi_disk.specs.Command.{fits}
use Rattle.scsi_disk.specs.declared.command.Command.{Command}
use Rattle.removal.specs.Handles.{ready_handle}
use Rattle.smid_pool.specs.Pool.{least_free}
use Rattle.smid_pool.specs.declared.class.Class.TheVariants as class
use Rattle.mpt_wire.specs.Machine.Causes.{is_up}
use Rattle.mpt_wire.specs.Walks.Passes.{EachEntry}
use Rattle.mpt_trace.specs.Command.{command_named}
use Rattle.mpt_trace.specs.declared.entry.Entry.{Entry}
use Rattle.mpt_trace.specs.declared.entry.Entry.TheVariants as entry
use Rattle.mpt_trace.specs.declared.host_state.HostState.{HostState}
use Rattle.mpt_trace.specs.declared.host_state.HostState.TheVariants as state
use Rattle.mpt_trace.specs.declared.input.Input.{Input}
use Rattle.mpt_trace.specs.declared.input.Input.TheVariants as input
use Rattle.mpt_trace.specs.declared.refusal.Refusal.{Refusal}
use Rattle.mpt_trace.specs.declared.refusal.RefusedCall.TheVariants as refused
use Rattle.mpt_rules.specs.declared.said.Said.{Said}
use Rattle.mpt_rules.specs.Host.Inputs.{starts_in}
use Rattle.mpt_rules.specs.Host.Parts.{Host}
use Rattle.mpt_rules.specs.World.Counts.{how_many, one_if}
use Rattle.mpt_rules.specs.World.Inputs.{by_option, by_result, host_told}
use Rattle.mpt_rules.specs.World.News as news
use Rattle.mpt_rules.specs.World.News.{News, news_in}
use Rattle.mpt_rules.proofs.HostCalls.{submits_by}
use Rattle.law_facts.specs.Handles.{Left, Side, There, is_departure, replayed, tells_added, tells_gone, turn_of, turns_of}
use Rattle.law_machine.proofs.Silent.{IsSilent}
use Rattle.law_moves.proofs.CasesTold.{IsPlugWord}
use Rattle.law_moves.proofs.Counted.{how_many-cons, how_many-nil}
use Rattle.law_ready.proofs.Bare.{IsBare}

-- ---- turns

pub going : (g : ℕ) (items : List Said) → replayed (Some There) (turns_of 0 g items) ≡ Some Left → 1 ≤ how_many (tells_gone g) items
unfolding turns_of
going g [] e = let z : Some There ≡ Some Left = e in absurd (cc)
going g (item ∷ items) e = by_news (news_in g item) refl e (λ x. going g items x)
  where
    by_news : (ns : List News) → news_in g item ≡ ns → replayed (Some There) (map turn_of ns ++ turns_of 0 g items) ≡ Some Left → (replayed (Some There) (turns_of 0 g items) ≡ Some Left → 1 ≤ how_many (tells_gone g) items)
        → 1 ≤ how_many (tells_gone g) (item ∷ items)
    by_news [] q e f = let c = how_many-cons (tells_gone g) item items in let z = f e in omega (arith, c, z)
    by_news (news.Added ∷ ns) q e f = let z : None ≡ Some Left = e in absurd (cc)
    by_news (news.NotResponding ∷ ns) q e f =
        let c = how_many-cons (tells_gone g) item items in
        let t : one_if (tells_gone g item) ≡ 1 = ap (λ ns. one_if (list_any is_departure ns)) q in
        omega (arith, c, t)

none_comes : (g : ℕ) (item : Said) (items : List Said) → news_in g item ≡ [] → how_many (tells_added g) items ≡ 0 → how_many (tells_added g) (item ∷ items) ≡ 0
none_comes g item items q z =
    let c = how_many-cons (tells_added g) item items in
    let t : one_if (tells_added g item) ≡ 0 = ap (λ ns. one_if (list_any (λ n. not (is_departure n)) ns)) q in
    omega (arith, c, t, z)

left_stays : (g : ℕ) (items : List Said) (side : Side) → replayed (Some Left) (turns_of 0 g items) ≡ Some side → how_many (tells_added g) items ≡ 0
unfolding turns_of
left_stays g [] side e = how_many-nil (tells_added g)
left_stays g (item ∷ items) side e = by_news (news_in g item) refl e (λ x. left_stays g items side x)
  where
    by_news : (ns : List News) → news_in g item ≡ ns → replayed (Some Left) (map turn_of ns ++ turns_of 0 g items) ≡ Some side → (replayed (Some Left) (turns_of 0 g items) ≡ Some side → how_many (tells_added g) items ≡ 0)
        → how_many (tells_added g) (item ∷ items) ≡ 0
    by_news [] q e f = none_comes g item items q (f e)
    by_news (news.Added ∷ ns) q e f = let z : None ≡ Some side = e in absurd (cc)
    by_news (news.NotResponding ∷ ns) q e f = let z : None ≡ Some side = e in absurd (cc)

-- a handle that is there isn't added
pub there_stays : (g : ℕ) (items : List Said) (side : Side) → replayed (Some There) (turns_of 0 g items) ≡ Some side → how_many (tells_added g) items ≡ 0
unfolding turns_of
there_stays g [] side e = how_many-nil (tells_added g)
there_stays g (item ∷ items) side e = by_news (news_in g item) refl e (λ x. there_stays g items side x)
  where
    by_news : (ns : List News) → news_in g item ≡ ns → replayed (Some There) (map turn_of ns ++ turns_of 0 g items) ≡ Some side → (replayed (Some There) (turns_of 0 g items) ≡ Some side → how_many (tells_added g) items ≡ 0)
        → how_many (tells_added g) (item ∷ items) ≡ 0
    by_news [] q e f = none_comes g item items q (f e)
    by_news (news.Added ∷ ns) q e f = let z : None ≡ Some side = e in absurd (cc)
    by_news (news.NotResponding ∷ []) q e f =
        let c = how_many-cons (tells_added g) item items in
        let t : one_if (tells_added g item) ≡ 0 = ap (λ ns. one_if (list_any (λ n. not (is_departure n)) ns)) q in
        let z = left_stays g items side e in
        omega (arith, c, t, z)
    by_news (news.NotResponding ∷ news.Added ∷ ns) q e f = let z : None ≡ Some side = e in absurd (cc)
    by_news (news.NotResponding ∷ news.NotResponding ∷ ns) q e f = let z : None ≡ Some side = e in absurd (cc)

-- ---- two that pass

some_passes : {X : Type 0} (test : X → Bool) (d : X) → test d ≡ false → (xs : List X) (i : ℕ) → test (get_or xs i d) ≡ true → 1 ≤ how_many test xs
some_passes test d n [] i t = let z : true ≡ false = sym t ∙ n in absurd (cc)
some_passes test d n (x ∷ xs) zero t = let c = how_many-cons test x xs in let o = ap one_if t in omega (arith, c, o)
some_passes test d n (x ∷ xs) (suc i) t = let c = how_many-cons test x xs in let o = some_passes test d n xs i t in omega (arith, c, o)

pub two_pass : {X : Type 0} (test : X → Bool) (d : X) → test d ≡ false → (xs : List X) (i j : ℕ) → (i ≡ j → ⊥) → test (get_or xs i d) ≡ true → test (get_or xs j d) ≡ true → 2 ≤ how_many test xs
two_pass test d n [] i j a t u = let z : true ≡ false = sym t ∙ n in absurd (cc)
two_pass test d n (x ∷ xs) zero zero a t u = absurd (a refl)
two_pass test d n (x ∷ xs) zero (suc j) a t u = let c = how_many-cons test x xs in let o = ap one_if t in let p = some_passes test d n xs j u in omega (arith, c, o, p)
two_pass test d n (x ∷ xs) (suc i) zero a t u = let c = how_many-cons test x xs in let o = ap one_if u in let p = some_passes test d n xs i t in omega (arith, c, o, p)
two_pass test d n (x ∷ xs) (suc i) (suc j) a t u = let c = how_many-cons test x xs in let p = two_pass test d n xs i j (λ e. a (ap suc e)) t u in omega (arith, c, p)

-- ---- entries

pub silent_bare : (t : List Entry) → EachEntry IsSilent t → EachEntry IsBare t
silent_bare [] a = tt
silent_bare (e ∷ t) a = (one e a.0, silent_bare t a.1)
  where
    one : (e : Entry) → IsSilent e → IsBare e
    one (entry.Bind k a n) p = tt
    one (entry.Unbind k) p = tt
    one entry.UnbindAll p = tt
    one (entry.Given i) p = absurd p
    one (entry.Refuse c cause) p = absurd p
    one (entry.Put l x) p = absurd p
    one (entry.Take l x) p = absurd p
    one entry.ResetDone p = absurd p
    one (entry.Idle x) p = absurd p
    one (entry.Run a tag) p = absurd p
    one entry.HostUp p = absurd p
    one (entry.Ready a k) p = absurd p
    one (entry.Lost a k) p = absurd p
    one (entry.Accept n a s) p = absurd p
    one (entry.RefuseSubmit n cause) p = absurd p
    one (entry.Answer n how) p = absurd p
    one (entry.AbortEnd n how) p = absurd p
    one (entry.TargetEnd a how) p = absurd p

pub plug_bare : (t : List Entry) → EachEntry IsPlugWord t → EachEntry IsBare t
plug_bare [] a = tt
plug_bare (e ∷ t) a = (one e a.0, plug_bare t a.1)
  where
    one : (e : Entry) → IsPlugWord e → IsBare e
    one (entry.Given i) p = tt
    one (entry.Refuse c cause) p = tt
    one (entry.Put l x) p = absurd p
    one (entry.Take l x) p = absurd p
    one entry.ResetDone p = absurd p
    one (entry.Idle x) p = absurd p
    one (entry.Bind k a n) p = absurd p
    one (entry.Unbind k) p = absurd p
    one entry.UnbindAll p = absurd p
    one (entry.Run a tag) p = absurd p
    one entry.HostUp p = absurd p
    one (entry.Ready a k) p = absurd p
    one (entry.Lost a k) p = absurd p
    one (entry.Accept n a s) p = absurd p
    one (entry.RefuseSubmit n cause) p = absurd p
    one (entry.Answer n how) p = absurd p
    one (entry.AbortEnd n how) p = absurd p
    one (entry.TargetEnd a how) p = absurd p

submit_bare : (host : Host) (n address : ℕ) (command : Command) (i : Input) (f : Refusal → Entry) → ((c : Refusal) → IsBare (f c)) → (used mode : Bool) (handle : Option ℕ) (fit : Bool) (smid : Option ℕ)
    → EachEntry IsBare (by_result i f (submits_by host n address command used mode handle fit smid)).entries
submit_bare host n address command i f h true mode handle fit smid = (tt, (h _, tt))
submit_bare host n address command i f h false false handle fit smid = (tt, (h _, tt))
submit_bare host n address command i f h false true None fit smid = (tt, (h _, tt))
submit_bare host n address command i f h false true (Some x) false smid = (tt, (h _, tt))
submit_bare host n address command i f h false true (Some x) true None = (tt, (h _, tt))
submit_bare host n address command i f h false true (Some x) true (Some s) = (tt, (tt, tt))

pub input_bare : (host : Host) (i : Input) → EachEntry IsBare (host_told host i).entries
input_bare host input.Start = by_mode host.mode
  where
    by_mode : (m : HostState) → EachEntry IsBare (by_option input.Start refused.Start (starts_in host m)).entries
    by_mode state.Off = (tt, tt)
    by_mode state.Starting = (tt, (tt, tt))
    by_mode state.Up = (tt, (tt, tt))
    by_mode state.Resetting = (tt, (tt, tt))
input_bare host (input.Submit n address form) = submit_bare host n address (command_named form) (input.Submit n address form) (entry.RefuseSubmit n) (λ c. tt) _ _ _ _ _
input_bare host (input.Abort n) = grind arith
input_bare host (input.TargetReset address) = grind arith
input_bare host input.Reset = grind arith
input_bare host input.UnitReset = grind arith
input_bare host (input.Plug address expander phy) = tt
input_bare host (input.Unplug address) = tt
