use Rattle.host_reading.proofs.Pages.{page_read}
use Rattle.host_reading.proofs.page.is_page_for.Goals as goal

pub returns-in-Ok : goal.returns-in-Ok
returns-in-Ok c = page_read c.in-Ok.read c.args.page.now c.args.handle c.in-Ok.ensures.read
