-- Why a configuration request is refused whatever pages there are.
use Rattle.std.specs.Prelude.{ℕ, if◌then◌else◌, List, Option, Some, None}
use Rattle.mpt_rules.specs.declared.status.TheConstants.{IOC_STATUS_CONFIG_INVALID_ACTION, IOC_STATUS_CONFIG_INVALID_TYPE}
use Rattle.mpt_rules.specs.Ioc.Configuration.{is_other_action, is_other_type}

abbrev pub config_refusal : List ℕ → Option ℕ
config_refusal frame =
    if is_other_action frame then Some IOC_STATUS_CONFIG_INVALID_ACTION
    else if is_other_type frame then Some IOC_STATUS_CONFIG_INVALID_TYPE
    else None
