-- Posts in the rules' words, with every choice made.
use Rattle.std.proofs.Common.{◌≡◌, ◌∙◌, ℕ, suc, ◌-◌, true, [], ◌∷◌, ◌++◌, List, drop, length, refl, ap, arith}
use Rattle.std.proofs.lemmas.List.{set-set}
use Rattle.smid_pool.specs.Pool.{Free, Open, Slot, with_slot}
use Rattle.mpi_rings.specs.declared.request_descriptor.PostKind.TheVariants as post
use Rattle.mpt_trace.specs.declared.item.Down.TheVariants as down
use Rattle.mpt_messages.specs.declared.host_ask.HostAsk.TheVariants as ask
use Rattle.mpt_wire.specs.Messages.Fields.{post_descriptor, target_reset}
use Rattle.removal.specs.Handles.{phase_at, with_phase}
use Rattle.removal.specs.Phases.{after_grant}
use Rattle.mpt_rules.specs.declared.request.Request.{Request}
use Rattle.mpt_rules.specs.declared.request.Request.TheVariants as request
use Rattle.mpt_rules.specs.Host.Parts.{Host}
use Rattle.mpt_rules.specs.Host.Posts.{frame_asked, frees, gives_high, gives_internal, posts_internal}
use Rattle.host_tables.specs.Slots.{is_internal}
use Rattle.host_core.specs.Posts.{internal_ask, phases_granted, waiting_handle}

-- the post of a request of the internal class
pub posts_internal-is : (host : Host) (smid : ℕ) (r : Request) → is_internal r ≡ true →
    posts_internal host smid r
    ≡ record host {
      pool = with_slot smid (Open r) host.pool;
      out = host.out ++ down.Post (post_descriptor post.Default 0 smid 0) (frame_asked (internal_ask smid r)) [] ∷ [];
      phases = phases_granted host.phases (waiting_handle r) smid;
    }
posts_internal-is host smid (request.Page handle) internal = refl
posts_internal-is host smid (request.Remove handle) internal = refl
posts_internal-is host smid (request.Ack event context) internal = refl
posts_internal-is host smid request.Notification internal = refl
posts_internal-is host smid request.PortEnable internal = refl
posts_internal-is host smid (request.Command n) internal = absurd (cc)
posts_internal-is host smid (request.Abort n task) internal = absurd (cc)
posts_internal-is host smid (request.TargetReset address) internal = absurd (cc)
posts_internal-is host smid (request.Leave handle) internal = absurd (cc)

-- an identifier that was freed and opened again
pub opened_again : (slots : List (Slot Request)) (smid : ℕ) (r : Request) → with_slot smid (Open r) (with_slot smid Free slots) ≡ with_slot smid (Open r) slots
opened_again slots smid r = set-set slots (smid - 1) Free (Open r)

-- an identifier that the first waiting request of the internal class gets
pub gives_internal-is : (host : Host) (smid : ℕ) (r : Request) (rest : List Request) → is_internal r ≡ true →
    gives_internal (frees host smid) smid (r ∷ rest)
    ≡ record host {
      pool = with_slot smid (Open r) host.pool;
      out = host.out ++ down.Post (post_descriptor post.Default 0 smid 0) (frame_asked (internal_ask smid r)) [] ∷ [];
      phases = phases_granted host.phases (waiting_handle r) smid;
      wait_internal = rest;
    }
gives_internal-is host smid r rest internal =
    posts_internal-is (record (frees host smid) { wait_internal = rest }) smid r internal
    ∙ ap (λ (slots : List (Slot Request)). record host {
      pool = slots;
      out = host.out ++ down.Post (post_descriptor post.Default 0 smid 0) (frame_asked (internal_ask smid r)) [] ∷ [];
      phases = phases_granted host.phases (waiting_handle r) smid;
      wait_internal = rest;
    }) (opened_again host.pool smid r)

-- an identifier that the first waiting target reset gets
pub gives_high-is : (host : Host) (smid handle : ℕ) (rest : List ℕ) →
    gives_high (frees host smid) smid (handle ∷ rest)
    ≡ record host {
      pool = with_slot smid (Open (request.Leave handle)) host.pool;
      out = host.out ++ down.Post (post_descriptor post.HighPriority 0 smid 0) (frame_asked (ask.Task handle target_reset 0)) [] ∷ [];
      phases = with_phase host.phases handle (after_grant (phase_at host.phases handle) smid);
      wait_high = rest;
    }
gives_high-is host smid handle rest =
    ap (λ (slots : List (Slot Request)). record host {
      pool = slots;
      out = host.out ++ down.Post (post_descriptor post.HighPriority 0 smid 0) (frame_asked (ask.Task handle target_reset 0)) [] ∷ [];
      phases = with_phase host.phases handle (after_grant (phase_at host.phases handle) smid);
      wait_high = rest;
    }) (opened_again host.pool smid (request.Leave handle))

-- a list without its first item is no list that has one
pub none_waits : {X : Type 0} (xs : List X) → xs ≡ drop 1 xs → xs ≡ []
none_waits [] same = refl
none_waits (x ∷ xs) same = absurd (let long : suc (length xs) ≡ length xs = ap length same in omega arith)
