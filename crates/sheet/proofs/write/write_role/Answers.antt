-- `sheet::write::write_role` meets its contract. Assumes nothing.
use Rattle.std.proofs.Common.{◌≡◌}
use Rattle.text.specs.Number.{number_text}
use Rattle.text.proofs.PageLaws.{adds_then, room-next}
use Rattle.sheet.specs.Text.{shown_by}
use Rattle.sheet.proofs.Parts.{named-nowhere, named}
use Rattle.sheet.proofs.write.write_role.Goals.{Else-name-eq0, Then-name-eq0}
use Rattle.sheet.proofs.write.write_role.Goals as goal

-- no table names the role
unnamed : (c : Then-name-eq0) → shown_by c.args.names c.args.r ≡ number_text c.args.r
unnamed c = named-nowhere c.args.names.works.now c.args.names.standard.now c.args.r c.of-name.result.now c.of-name.ensures.bytes c.if-name-eq0.true

-- one does
is-named : (c : Else-name-eq0) → shown_by c.args.names c.args.r ≡ c.of-name.result.now
is-named c = named c.args.names.works.now c.args.names.standard.now c.args.r c.of-name.result.now c.of-name.ensures.bytes c.if-name-eq0.false

pub field-requires : goal.field-requires
field-requires c = rw (← unnamed (goal.at.field-requires c).Then-name-eq0) c.requires.1

pub returns-then-name-eq0 : goal.returns-then-name-eq0
returns-then-name-eq0 c = rw (unnamed (goal.at.returns-then-name-eq0 c).Then-name-eq0) c.field.ensures

pub push_bytes-requires : goal.push_bytes-requires
push_bytes-requires c =
    room-next c.push.ensures c.of-name.result.now (rw (← is-named (goal.at.push_bytes-requires c).Else-name-eq0) c.requires.1)

pub returns : goal.returns
returns c = rw (is-named (goal.at.returns c).Else-name-eq0) (adds_then c.push.ensures c.push_bytes.ensures)
