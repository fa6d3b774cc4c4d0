-- Away from the doorbell a host that returns frames holds none it didn't hold.
use Rattle.std.proofs.Common.{◌≡◌, ℕ, true, false, refl, ap, sym, ◌∙◌}
use Rattle.std.specs.FinMap as finmap
use Rattle.smid_pool.specs.Pool.{Free, Open, Parked, Slot, slot_of}
use Rattle.mpt_rules.specs.declared.host_frame.HostFrame.TheVariants as frame
use Rattle.mpt_rules.specs.declared.request.Request.{Request}
use Rattle.mpt_rules.specs.declared.request.Request.TheVariants as request
use Rattle.mpt_rules.specs.Host.Parts.{Host}
use Rattle.mpt_rules.specs.Host.Posts as asks
use Rattle.mpt_rules.specs.Host.Replies as replies
use Rattle.mpt_rules.specs.World.Counts.{how_many}
use Rattle.mpt_rules.specs.World.PlaceCounts.{is_held_frame}
use Rattle.law_flights.proofs.HostMoves.{Accepts, Acked, Acks, Adds, Anew, Answers, AskedInternal, AskedLeave, AsksAbort, AsksTarget, BeginsMessages, ComesUp, EndsAbort, EndsTarget, FreedHigh, FreedInternal, Frees, FreesHigh, FreesInternal, GivesHigh, GivesInternal, GivesUp, Keeps, Leaves, LeftAsks, LeftOnly, Loses, Move, Notified, Posts, Puts, PutsRead, PutsWrites, Reads, Removes, Returns, Sets, Starts, TakesEntry, WaitsHigh, WaitsInternal}
use Rattle.law_records.proofs.Strict.{IsStrict}
use Rattle.law_returns.proofs.Frames.{set_none}

pub record Safe (h : Host) : Type 0 where
  pub returning : h.returning ≡ true
  pub none : how_many is_held_frame h.frames ≡ 0

record Same (h k : Host) : Type 0 where
  frames : k.frames ≡ h.frames
  returning : k.returning ≡ h.returning

is : (h k m : Host) → k ≡ m → Same h m → Same h k
is h k m e s = record { frames = ap (λ (x : Host). x.frames) e ∙ s.frames; returning = ap (λ (x : Host). x.returning) e ∙ s.returning }

then : (h k m : Host) → Same h k → Same k m → Same h m
then h k m a b = record { frames = b.frames ∙ a.frames; returning = b.returning ∙ a.returning }

safely : (h k : Host) → Same h k → Safe h → Safe k
safely h k s z = record { returning = s.returning ∙ z.returning; none = ap (how_many is_held_frame) s.frames ∙ z.none }

posts : (h : Host) (s : ℕ) (r : Request) → Same h (asks.posts_internal h s r)
posts h s (request.Page handle) = record { frames = refl; returning = refl }
posts h s (request.Remove handle) = record { frames = refl; returning = refl }
posts h s (request.Ack event context) = record { frames = refl; returning = refl }
posts h s request.Notification = record { frames = refl; returning = refl }
posts h s request.PortEnable = record { frames = refl; returning = refl }
posts h s (request.Command n) = record { frames = refl; returning = refl }
posts h s (request.Abort n task) = record { frames = refl; returning = refl }
posts h s (request.TargetReset address) = record { frames = refl; returning = refl }
posts h s (request.Leave handle) = record { frames = refl; returning = refl }

asked : (x : Request) (h k : Host) → AskedInternal x h k → Same h k
asked x h k (Posts s l e) = is h k (asks.posts_internal h s x) e (posts h s x)
asked x h k (WaitsInternal l e) = is h k _ e (record { frames = refl; returning = refl })

left : (handle : ℕ) (h k : Host) → AskedLeave handle h k → Same h k
left handle h k (Leaves s l e) = is h k _ e (record { frames = refl; returning = refl })
left handle h k (WaitsHigh l e) = is h k _ e (record { frames = refl; returning = refl })

high : (s : ℕ) (h k : Host) → FreedHigh s h k → Same h k
high s h k (FreesHigh n e) = is h k _ e (record { frames = refl; returning = refl })
high s h k (GivesHigh handle rest n e) = is h k _ e (record { frames = refl; returning = refl })

internal : (s : ℕ) (h k : Host) → FreedInternal s h k → Same h k
internal s h k (FreesInternal n e) = is h k _ e (record { frames = refl; returning = refl })
internal s h k (GivesInternal x rest n e) =
    let m : Host = record (asks.frees h s) { wait_internal = rest } in
    let q = posts m s x in
    is h k (asks.posts_internal m s x) e (record { frames = q.frames; returning = q.returning })

unparked : (h : Host) (task : ℕ) (x : Slot Request) → Same h (replies.unparks h task x)
unparked h task Free = record { frames = refl; returning = refl }
unparked h task (Open r) = record { frames = refl; returning = refl }
unparked h task Parked = record { frames = refl; returning = refl }

by_fields : (h m k : Host) → m.frames ≡ h.frames → m.returning ≡ h.returning → Same m k → Same h k
by_fields h m k f r s = record { frames = s.frames ∙ f; returning = s.returning ∙ r }

never : {T : Type 0} → false ≡ true → T
never e = absurd (cc)

pub move_safe : (h h2 : Host) → (x : Move h h2) → IsStrict false h h2 x → Safe h → Safe h2
move_safe h h2 (Puts x a e) t z = safely h h2 (is h h2 _ e (record { frames = refl; returning = refl })) z
move_safe h h2 (PutsWrites ws a e) t z = never t
move_safe h h2 (PutsRead d reg e) t z = never t
move_safe h h2 (Sets machine s reading ready marks e) t z = never t
move_safe h h2 (TakesEntry queue e) t z = safely h h2 (is h h2 _ e (record { frames = refl; returning = refl })) z
move_safe h h2 (Returns f r e) t z =
    record {
      returning = ap (λ (x : Host). x.returning) e ∙ z.returning;
      none = ap (λ (x : Host). how_many is_held_frame x.frames) e ∙ set_none h.frames f frame.Out refl z.none;
    }
move_safe h h2 (Keeps f r e) t z = never (sym r ∙ z.returning)
move_safe h h2 (BeginsMessages m b r a) t z = never t
move_safe h h2 (Frees s r o m e) t z = safely h h2 (is h h2 _ e (record { frames = refl; returning = refl })) z
move_safe h h2 (Answers s n how o e) t z = safely h h2 (is h h2 _ e (record { frames = refl; returning = refl })) z
move_safe h h2 (EndsAbort s n task o f) t z =
    let k : Host = record h { aborts = finmap.remove h.aborts n } in
    safely h h2 (by_fields h k h2 refl refl (then k (replies.closes_abort h n task) h2 (unparked k task (slot_of h.pool task)) (high s (replies.closes_abort h n task) h2 f))) z
move_safe h h2 (EndsTarget s address o f) t z = safely h h2 (high s h h2 f) z
move_safe h h2 (LeftAsks s handle m o r u f a) t z = safely h h2 (by_fields h _ h2 refl refl (then _ m h2 (high s _ m f) (asked (request.Remove handle) m h2 a))) z
move_safe h h2 (LeftOnly s handle o r u f) t z = safely h h2 (by_fields h _ h2 refl refl (high s _ h2 f)) z
move_safe h h2 (Reads s handle page o r f) t z = safely h h2 (by_fields h _ h2 refl refl (internal s _ h2 f)) z
move_safe h h2 (Removes s handle o r f) t z = safely h h2 (by_fields h _ h2 refl refl (internal s _ h2 f)) z
move_safe h h2 (Acked s event context o r f) t z = safely h h2 (internal s h h2 f) z
move_safe h h2 (Notified s m o r f a) t z = safely h h2 (then h m h2 (internal s h m f) (asked request.PortEnable m h2 a)) z
move_safe h h2 (ComesUp s m o r f e) t z = let q = internal s h m f in safely h h2 (is h h2 (record m { mode = Rattle.mpt_trace.specs.declared.host_state.HostState.TheVariants.Up }) e (record { frames = q.frames; returning = q.returning })) z
move_safe h h2 (Acks event context r a) t z = safely h h2 (asked (request.Ack event context) h h2 a) z
move_safe h h2 (Adds handle r d p a) t z = safely h h2 (by_fields h _ h2 refl refl (asked (request.Page handle) _ h2 a)) z
move_safe h h2 (Loses handle p r d q u a) t z = safely h h2 (by_fields h _ h2 refl refl (left handle _ h2 a)) z
move_safe h h2 (Accepts s n address handle command u c r l e) t z = safely h h2 (is h h2 _ e (record { frames = refl; returning = refl })) z
move_safe h h2 (AsksAbort s n cmd u c b l e) t z = safely h h2 (is h h2 _ e (record { frames = refl; returning = refl })) z
move_safe h h2 (AsksTarget s address handle u r l e) t z = safely h h2 (is h h2 _ e (record { frames = refl; returning = refl })) z
move_safe h h2 (Starts m e) t z = never t
move_safe h h2 (GivesUp s m e) t z = never t
move_safe h h2 (Anew m d a e) t z = never t

-- messages begin
pub asks_frames : (h : Host) (r : Request) → (asks.asks_internal h r).frames ≡ h.frames
asks_frames h r = by_place (Rattle.smid_pool.specs.Pool.least_free Rattle.smid_pool.specs.declared.class.Class.TheVariants.Internal h.pool)
  where
    by_place : (o : Rattle.std.specs.Prelude.Option ℕ) → (asks.posts_internal_or_waits h r o).frames ≡ h.frames
    by_place Rattle.std.specs.Prelude.None = refl
    by_place (Rattle.std.specs.Prelude.Some s) = (posts h s r).frames
