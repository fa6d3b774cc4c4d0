-- The replies of handshakes.
use Rattle.std.specs.Prelude.{◌≡◌, ◌≤◌, ◌%◌}
use Rattle.mpt_messages.specs.IocFrames.{reply_length}
use Rattle.mpt_messages.specs.declared.ioc_reply.IocReply.{IocReply}

-- the reply has from 20 to 128 bytes, in whole dwords
pub record IsShortReply (r : IocReply) : Type 0 where
  pub least : 20 ≤ reply_length r
  pub most : reply_length r ≤ 128
  pub whole : reply_length r % 4 ≡ 0
