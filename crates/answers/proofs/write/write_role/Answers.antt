-- `answers::write::write_role` meets its contract. Assumes nothing.
use Rattle.text.proofs.PageLaws.{adds_nothing}
use Rattle.answers.proofs.Texts.{a-role, no-role}
use Rattle.answers.proofs.write.write_role.Goals as goal

pub field-requires : goal.field-requires
field-requires c = rw (a-role c.args.role c.if-role-lt-MOST_ROLES.true) at c.requires

pub returns-then-role-lt-MOST_ROLES : goal.returns-then-role-lt-MOST_ROLES
returns-then-role-lt-MOST_ROLES c = rw (a-role c.args.role c.if-role-lt-MOST_ROLES.true) c.field.ensures

pub returns-else-role-lt-MOST_ROLES : goal.returns-else-role-lt-MOST_ROLES
returns-else-role-lt-MOST_ROLES c = rw (no-role c.args.role c.if-role-lt-MOST_ROLES.false) (adds_nothing c.args.page.now)
