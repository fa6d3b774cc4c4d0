-- What the fabric does, leaf by leaf, as far as its notices and its disks go: but for a discovery and a link.
use Rattle.std.proofs.Common.{◌≡◌, ℕ, ◌+◌, ◌==◌, nat_le, not, Bool, true, false, if◌then◌else◌, List, [], ◌∷◌, ◌++◌, map, Option, Some, None, is_some, refl, ap, sym, ◌∙◌, subst, arith}
use Rattle.std.specs.List.{find}
use Rattle.mpt_wire.specs.Machine.State.{Place}
use Rattle.mpt_trace.specs.declared.item.Back.{Back}
use Rattle.mpt_trace.specs.declared.item.Back.TheVariants as back
use Rattle.mpt_trace.specs.declared.item.Out.{Out}
use Rattle.mpt_trace.specs.declared.item.Out.TheVariants as out
use Rattle.mpt_rules.specs.declared.task.Task.{Task}
use Rattle.mpt_rules.specs.Fabric.Calls as fab
use Rattle.mpt_rules.specs.Fabric.Disks.{disk_of, has_phy, is_occupied, with_disk}
use Rattle.mpt_rules.specs.Fabric.Parts.{Fabric, FabricDisk}
use Rattle.mpt_rules.specs.Fabric.Tasks as tasks
use Rattle.mpt_rules.specs.World.News.{is_notice_of, notices_of}
use Rattle.mpt_rules.proofs.Lines.{notices_of-append, notices_of-cons, notices_of-nil}
use Rattle.law_facts.specs.Notices.{is_notice}
use Rattle.law_facts.specs.Words.{others}
use Rattle.law_handles.proofs.Plugged.{front_passes}
use Rattle.law_moves.proofs.Counted.{Grown, grown-by, grown-none, grown-one, others-append, others-cons, others-nil, one_mild}

-- no plug and no unplug
abbrev pub is_quiet : Back → Bool
is_quiet item = not (is_notice item)

pub quiet_of : (a : ℕ) (x : Back) → is_quiet x ≡ true → is_notice_of a x ≡ false
quiet_of a (back.Plugged address plug expander phy) e = absurd (cc)
quiet_of a (back.Unplugged address plug expander phy) e = absurd (cc)
quiet_of a (back.Result tag r) e = refl
quiet_of a (back.Gone tag) e = refl
quiet_of a (back.Terminated tag) e = refl
quiet_of a (back.Aborted smid seen) e = refl
quiet_of a (back.Cleared smid count) e = refl
quiet_of a back.Discovered e = refl
quiet_of a (back.Linked generation) e = refl
quiet_of a back.Calm e = refl

rest_passes : (test : Back → Bool) (x : Back) (xs : List Back) → others test (x ∷ xs) ≡ 0 → others test xs ≡ 0
rest_passes test x xs z = let c = others-cons test x xs in omega (arith, c, z)

pub quiet_unnoticed : (a : ℕ) (xs : List Back) → others is_quiet xs ≡ 0 → notices_of a xs ≡ []
quiet_unnoticed a [] z = notices_of-nil a
quiet_unnoticed a (x ∷ xs) z =
    let q = quiet_of a x (front_passes is_quiet x xs z) in
    notices_of-cons a x xs ∙ (ap (λ b. if b then x ∷ notices_of a xs else notices_of a xs) q ∙ quiet_unnoticed a xs (rest_passes is_quiet x xs z))

-- what is added to a list and isn't noticed
pub grown_unnoticed : (a : ℕ) (xs ys : List Back) → Grown is_quiet xs ys → notices_of a ys ≡ notices_of a xs
grown_unnoticed a xs ys g =
    ap (notices_of a) g.is ∙ (notices_of-append a xs g.added ∙ (ap (λ zs. notices_of a xs ++ zs) (quiet_unnoticed a g.added g.mild) ∙ Rattle.std.proofs.Common.append-nil (notices_of a xs)))

mapped : (f : Task → Back) → ((t : Task) → is_quiet (f t) ≡ true) → (ts : List Task) → others is_quiet (map f ts) ≡ 0
mapped f e [] = others-nil is_quiet
mapped f e (t ∷ ts) =
    let a = others-cons is_quiet (f t) (map f ts) in
    let h = mapped f e ts in
    let o : Rattle.mpt_rules.specs.World.Counts.one_if (not (is_quiet (f t))) ≡ 0 = ap (λ b. Rattle.mpt_rules.specs.World.Counts.one_if (not b)) (e t) in
    omega (arith, a, h, o)

one_behind : (xs : List Back) (y : Back) → others is_quiet xs ≡ 0 → is_quiet y ≡ true → others is_quiet (xs ++ y ∷ []) ≡ 0
one_behind xs y z e = let a = others-append is_quiet xs (y ∷ []) in let b = one_mild is_quiet y e in omega (arith, a, b, z)

-- ---- the leaves

pub data Moves (f : Fabric) : Fabric → Type 0 where
  Quietly : (k : Fabric) → Grown is_quiet f.out k.out → k.notices ≡ f.notices → k.on ≡ f.on → k.disks ≡ f.disks → k.phys ≡ f.phys → Moves f k
  Runs : (k : Fabric) (address : ℕ) (bytes : List ℕ) → Grown is_quiet f.out k.out → k.notices ≡ f.notices → k.on ≡ f.on → k.disks ≡ with_disk address (λ (disk : FabricDisk). record disk { bytes = bytes }) f.disks → k.phys ≡ f.phys → Moves f k
  Plugs : (d : FabricDisk) (address : ℕ) (p : Place) → disk_of f address ≡ Some d → d.at ≡ None → has_phy f p.expander p.phy ≡ true → is_occupied f p.expander p.phy ≡ false → Moves f (fab.after_plug f d p)
  Unplugs : (d : FabricDisk) (address : ℕ) (p : Place) → disk_of f address ≡ Some d → d.at ≡ Some p → Moves f (fab.after_unplug f d p)

-- an item that is no discovery and no link
abbrev pub is_mute : Out → Bool
is_mute out.Discover = false
is_mute (out.Link generation) = false
is_mute x = true

module _ (f : Fabric) where
  unmoved : Moves f f
  unmoved = Quietly f (grown-none is_quiet f.out) refl refl refl refl

  pub out_moves : (x : Out) → is_mute x ≡ true → Moves f (fab.takes_out f x)
  out_moves (out.Task tag address command) e = by_test (tasks.may_queue f tag address)
    where
      by_test : (b : Bool) → Moves f (tasks.with_task_taken_if b f tag address command)
      by_test true = Quietly _ (grown-none is_quiet f.out) refl refl refl refl
      by_test false = Quietly _ (grown-one is_quiet f.out f.out (back.Gone tag) (grown-none is_quiet f.out) refl) refl refl refl refl
  out_moves (out.Abort smid task) e = by_test (tasks.is_queued f task)
    where
      by_test : (b : Bool) → Moves f (tasks.after_abort_if b f smid task)
      by_test true = Quietly _ (grown-by is_quiet f.out f.out (back.Terminated task ∷ back.Aborted smid true ∷ []) (grown-none is_quiet f.out) (one_behind (back.Terminated task ∷ []) (back.Aborted smid true) (one_mild is_quiet (back.Terminated task) refl) refl)) refl refl refl refl
      by_test false = Quietly _ (grown-one is_quiet f.out f.out (back.Aborted smid false) (grown-none is_quiet f.out) refl) refl refl refl refl
  out_moves (out.TargetReset smid address) e =
      let ts = tasks.tasks_for address f.tasks in
      let last = back.Cleared smid (Rattle.std.proofs.Common.length ts) in
      Quietly (tasks.clears f smid address) (grown-by is_quiet f.out f.out (map tasks.terminated ts ++ last ∷ []) (grown-none is_quiet f.out) (one_behind (map tasks.terminated ts) last (mapped tasks.terminated (λ t. refl) ts) refl)) refl refl refl refl
  out_moves out.Discover e = absurd (cc)
  out_moves (out.Link generation) e = absurd (cc)
  out_moves out.Stop e = unmoved

  pub run_moves : (tag : ℕ) → Moves f (fab.runs f tag).part
  run_moves tag = by_task (find (tasks.has_tag tag) f.tasks)
    where
      by_task : (o : Option Task) → Moves f (tasks.runs_task f o).part
      by_task None = unmoved
      by_task (Some t) = Runs _ t.address (tasks.performed_at f t.address t.command).bytes (grown-one is_quiet f.out f.out _ (grown-none is_quiet f.out) refl) refl refl refl refl

  pub calm_moves : Moves f (fab.calms f)
  calm_moves = Quietly _ (grown-one is_quiet f.out f.out back.Calm (grown-none is_quiet f.out) refl) refl refl refl refl

  -- what stands in no plug's way
  record Free (occupied placed : Bool) (there : Bool) : Type 0 where
    is_there : there ≡ true
    unoccupied : occupied ≡ false
    unplaced : placed ≡ false

  free : (a b c d : Bool) → (if a then (if b then Some fab.PlugRefusal.Occupied else (if c then Some fab.PlugRefusal.AlreadyPlugged else (if d then Some fab.PlugRefusal.PlugsSpent else None))) else Some fab.PlugRefusal.NoSuchPhy) ≡ None → Free b c a
  free true true c d e = absurd (cc)
  free true false true d e = absurd (cc)
  free true false false d e = record { is_there = refl; unoccupied = refl; unplaced = refl }
  free false b c d e = absurd (cc)

  none_is : (o : Option Place) → is_some o ≡ false → o ≡ None
  none_is None e = refl
  none_is (Some p) e = absurd (cc)

  pub plug_moves : (address expander phy : ℕ) → Moves f (fab.fabric_plugs f address expander phy).part
  plug_moves address expander phy = by_disk (disk_of f address) refl
    where
      by_cause : (d : FabricDisk) (o : Option fab.PlugRefusal) → disk_of f address ≡ Some d → fab.plug_refusal f d expander phy ≡ o → Moves f (fab.plugs_unless o f d (record { expander = expander; phy = phy })).part
      by_cause d (Some cause) e r = unmoved
      by_cause d None e r =
          let k = free (has_phy f expander phy) (is_occupied f expander phy) (is_some d.at) (nat_le 100000 d.plugs) r in
          Plugs d address (record { expander = expander; phy = phy }) e (none_is d.at k.unplaced) k.is_there k.unoccupied

      by_disk : (o : Option FabricDisk) → disk_of f address ≡ o → Moves f (fab.plugs_disk o f expander phy).part
      by_disk None e = unmoved
      by_disk (Some d) e = by_cause d (fab.plug_refusal f d expander phy) e refl

  pub unplug_moves : (address : ℕ) → Moves f (fab.fabric_unplugs f address).part
  unplug_moves address = by_disk (disk_of f address) refl
    where
      by_place : (d : FabricDisk) (o : Option Place) → disk_of f address ≡ Some d → d.at ≡ o → Moves f (fab.fabric_unplugs_from o f d).part
      by_place d None e p = unmoved
      by_place d (Some place) e p = Unplugs d address place e p

      by_disk : (o : Option FabricDisk) → disk_of f address ≡ o → Moves f (fab.unplugs_disk o f).part
      by_disk None e = unmoved
      by_disk (Some d) e = by_place d d.at e refl

  -- what an unplug adds to the outbox
  pub unplug_grows : (d : FabricDisk) → Grown is_quiet f.out (f.out ++ map tasks.gone (tasks.tasks_for d.address f.tasks))
  unplug_grows d = grown-by is_quiet f.out f.out (map tasks.gone (tasks.tasks_for d.address f.tasks)) (grown-none is_quiet f.out) (mapped tasks.gone (λ t. refl) (tasks.tasks_for d.address f.tasks))
