use Rattle.ioc_core.proofs.ioc.Ioc.smid_at.Goals as goal

pub returns-then-is_in_high-clause-apart : goal.returns-then-is_in_high-clause-apart
returns-then-is_in_high-clause-apart c = rw (← c.self.view_is) c.is_queued.ensures.apart

pub returns-else-is_in_high-clause-apart : goal.returns-else-is_in_high-clause-apart
returns-else-is_in_high-clause-apart c = rw (← c.self.view_is) c.is_queued.ensures.apart

pub returns-then-is_at_fabric-clause-apart : goal.returns-then-is_at_fabric-clause-apart
returns-then-is_at_fabric-clause-apart c = rw (← c.self.view_is) c.is_queued.ensures.apart

pub returns-then-has_reply-clause-apart : goal.returns-then-has_reply-clause-apart
returns-then-has_reply-clause-apart c = rw (← c.self.view_is) c.is_queued.ensures.apart

pub returns-else-has_reply-clause-apart : goal.returns-else-has_reply-clause-apart
returns-else-has_reply-clause-apart c = rw (← c.self.view_is) c.is_queued.ensures.apart
