-- `audit::places::roles_of` meets its contract: each kind has its roles. Assumes nothing.
use Rattle.audit.proofs.Walks.{roles_for, roles_def, roles_assign, roles_modify, roles_normal, roles_args}
use Rattle.audit.proofs.Walks.{roles_kwargs, roles_other}
use Rattle.audit.proofs.places.roles_of.Goals as goal

pub returns-in-3 : goal.returns-in-3
returns-in-3 c = search roles_for

pub returns-in-2 : goal.returns-in-2
returns-in-2 c = search roles_def

pub returns-in-11 : goal.returns-in-11
returns-in-11 c = search roles_assign

pub returns-in-12 : goal.returns-in-12
returns-in-12 c = search roles_modify

pub returns-in-50 : goal.returns-in-50
returns-in-50 c = search roles_normal

pub returns-in-53 : goal.returns-in-53
returns-in-53 c = search roles_args

pub returns-in-54 : goal.returns-in-54
returns-in-54 c = search roles_kwargs

pub returns-in_default : goal.returns-in_default
returns-in_default c = search roles_other
