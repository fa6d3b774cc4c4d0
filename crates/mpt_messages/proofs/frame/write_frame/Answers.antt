use Rattle.std.proofs.Common.{◌∙◌}
use Rattle.std.proofs.lemmas.List.{drop-replicate}
use Rattle.mpt_messages.specs.Message.{message_length}
use Rattle.mpt_messages.proofs.MessageBytes.{frame_whole}
use Rattle.mpt_messages.proofs.frame.write_frame.Goals as goal

pub returns-clause-rest : goal.returns-clause-rest
returns-clause-rest c = c.encode-length.ensures.rest ∙ drop-replicate (message_length c.args.m.now) 128 0

pub returns-clause-whole : goal.returns-clause-whole
returns-clause-whole c =
    frame_whole c.args.m.now c.encode-length.new.out c.requires c.are_bytes.ensures c.encode-length.ensures.stands (c.encode-length.ensures.rest ∙ drop-replicate (message_length c.args.m.now) 128 0)
