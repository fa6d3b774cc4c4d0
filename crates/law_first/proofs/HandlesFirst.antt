-- The facts of handles hold of the first world: no handle is bound, and the host has none.
use Rattle.std.proofs.Common.{◌≡◌, ℕ, ◌-◌, nat_le, Bool, true, false, if◌then◌else◌, [], get_or, replicate, Option, Some, None, refl, ap, sym, ◌∙◌, subst, arith}
use Rattle.std.proofs.lemmas.List.Elements.{All-nil}
use Rattle.removal.specs.Handles.{IsHandle}
use Rattle.mpt_wire.specs.Handles.Bindings.{Plug}
use Rattle.mpt_rules.specs.declared.binding.Binding.TheVariants as binding
use Rattle.mpt_rules.specs.declared.post.Post.{Post}
use Rattle.mpt_rules.specs.Ioc.Bindings.{waits_at}
use Rattle.mpt_rules.specs.Ioc.Tables.{binding_of, first_handle, is_present_at, is_unbound}
use Rattle.mpt_rules.specs.World.Counts.{how_many}
use Rattle.mpt_rules.specs.World.Lines.{high_line, high_posts, normal_line, normal_posts}
use Rattle.mpt_rules.specs.World.Settings.{Setting, first_world}
use Rattle.mpt_rules.specs.World.State.{World}
use Rattle.law_facts.specs.Handles.{Aimed, BindingIs, Binds, Handle, Handles, HostKnown, IsWaiting, KnownOnce, LastOfHandle, OlderFirst, Pages, RemovalIsKnown, ResetsInOrder, Served, Waits, is_remove_post, uses_handle}
use Rattle.law_facts.specs.History.{History, first_history}
use Rattle.law_facts.specs.Words.{behind}
use Rattle.law_moves.proofs.Counted.{how_many-nil}
use Rattle.law_first.proofs.ClockFirst.{never}
use Rattle.law_first.proofs.Empty.{no_key, none_of, same_at}
use Rattle.law_first.proofs.FlightsFirst.{all_slots_free}

-- nothing is bound
pub all_unbound : (s : Setting) (handle : ℕ) → binding_of (first_world s).ioc handle ≡ binding.Unbound
all_unbound s handle = by_range (nat_le first_handle handle)
  where
    by_range : (b : Bool) → (if b then get_or (replicate 64 binding.Unbound) (handle - first_handle) binding.Unbound else binding.Unbound) ≡ binding.Unbound
    by_range true = same_at 64 (handle - first_handle) binding.Unbound
    by_range false = refl

-- no post is on its way
pub no_posts : (s : Setting) → (high_line (first_world s) ≡ []) × (normal_line (first_world s) ≡ [])
unfolding high_posts normal_posts
no_posts s = (refl, refl)

no_plug : {X : Type 0} (p : Plug) → (let o : Option Plug = None in o) ≡ Some p → X
no_plug p e = absurd (cc)

module _ (s : Setting) where
  abbrev w : World
  w = first_world s

  abbrev h : History
  h = first_history s.disks

  none_behind : (p q : Post → Bool) → how_many p (behind q (normal_line w)) ≡ 0
  unfolding behind
  none_behind p q = ap (λ xs. how_many p (behind q xs)) (no_posts s).1 ∙ how_many-nil p

  removes_none : (handle : ℕ) → how_many (is_remove_post w handle) (normal_line w) ≡ 0
  removes_none handle = ap (how_many (is_remove_post w handle)) (no_posts s).1 ∙ how_many-nil (is_remove_post w handle)

  binds : (handle : ℕ) → Binds w h handle
  binds handle =
      record {
        served = subst (λ b. BindingIs b None) (sym (all_unbound s handle)) refl;
        aimed = refl;
        through = λ e. let t : true ≡ false = sym (ap is_unbound (all_unbound s handle)) ∙ e in absurd (cc);
      }

  resets : (handle : ℕ) → ResetsInOrder w handle
  resets handle = record { last = λ e. never e; held = λ e. never e }

  last : (handle : ℕ) → LastOfHandle w handle
  last handle = record { let_go = λ e. never e; one = let z = removes_none handle in omega (arith, z); last = none_behind (uses_handle w handle) (is_remove_post w handle) }

  pages : (handle : ℕ) → Pages w handle
  pages handle = record { bound = λ e. never e; before = λ e. never e; late_refusal = λ e. never e; late_read = λ e. never e }

  known : (handle : ℕ) → HostKnown w h handle
  known handle = record { pages = λ e. never e; announced = λ e. never e; leaving = λ e. never e; plug = λ p e. no_plug p e }

  each : (handle : ℕ) → Handle w h handle
  each handle =
      record {
        records = λ e. never e;
        binds = binds handle;
        life = λ e. never e;
        page_bound = λ e. never e;
        resets = resets handle;
        last = last handle;
        pages = pages handle;
        ready = λ e. never e;
        known = known handle;
      }

  waits : Waits w
  waits = record { high = λ l. absurd (omega (arith, l)); internal = λ l. absurd (omega (arith, l)); handles = All-nil IsHandle; requests = All-nil IsWaiting }

  served : Served w h
  served = record { waiting = refl; due = refl; full = λ l. absurd (omega (arith, l)); apart = λ handle p e. no_plug p e; through = λ e. never e }

  known_once : (address : ℕ) → KnownOnce w address
  known_once address =
      let a : how_many (is_present_at address) w.ioc.bindings ≡ 0 = none_of (is_present_at address) 64 binding.Unbound refl in let b = how_many-nil (waits_at address) in
      omega (arith, a, b)

  aimed : (n : ℕ) → Aimed w h n
  aimed n = record { chosen = λ c e. no_key w.host.cmds refl n c e; handle = λ c e. no_key w.host.cmds refl n c e }

  older : (j k : ℕ) → OlderFirst w h j k
  older j k = record { gone = λ a m n e. never e; first = λ a m n e. never e }

  pub handles_first : Handles w h
  handles_first =
      record {
        each = λ handle i. each handle;
        outside = λ handle i. refl;
        records = λ e. never e;
        waits = waits;
        served = served;
        known_once = known_once;
        differ = λ j k p d e. no_plug p e;
        bound = λ n c r e. never e;
        resets = λ e. never e;
        removals = λ q. subst (RemovalIsKnown w h q) (sym (all_slots_free s q)) tt;
        pages = λ e. never e;
        aimed = aimed;
        unchosen = λ q e. refl;
        older = older;
      }
