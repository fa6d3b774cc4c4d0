use Rattle.std.proofs.Common.{arith, subst, sym, ap, ◌∙◌}
use Rattle.mpi_doorbell.proofs.Exchanges.{advance_end, advance_more}
use Rattle.mpi_doorbell.specs.Handshake.{next_word}
use Rattle.mpi_doorbell.specs.Exchange.{handshake_of, IsSound}
use Rattle.mpi_doorbell.proofs.exchange.Exchange.advance.Goals as goal

pub returns-then-word-words-clause-after : goal.returns-then-word-words-clause-after
returns-then-word-words-clause-after c =
    let sound = subst IsSound c.in-Replies.is c.self.invariant in
    let more = advance_more c.in-Replies.word c.in-Replies.words c.self.inside.bytes c.if-word-words.true (omega (arith, sound)) in
    more ∙ sym (ap (λ p. next_word (handshake_of p c.self.inside.bytes)) c.in-Replies.is) ∙ ap next_word c.self.view_is

pub returns-clause-after : goal.returns-clause-after
returns-clause-after c =
    let last = advance_end c.in-Replies.word c.in-Replies.words c.self.inside.bytes c.if-word-words.false in
    last ∙ sym (ap (λ p. next_word (handshake_of p c.self.inside.bytes)) c.in-Replies.is) ∙ ap next_word c.self.view_is
