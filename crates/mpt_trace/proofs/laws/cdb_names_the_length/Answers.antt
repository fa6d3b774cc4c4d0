use Rattle.mpt_trace.proofs.CommandLength.{names_its_length}
use Rattle.mpt_trace.proofs.laws.cdb_names_the_length.Goals as goal

pub returns : goal.returns
returns c = names_its_length c.args.form.now c.form_fits_its_cdb.ensures
