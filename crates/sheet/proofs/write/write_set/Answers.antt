-- `sheet::write::write_set` meets its contract: the roles that are still to come finish the text. Assumes nothing.
use Rattle.std.proofs.Common.{◌∷◌, sym, ◌∙◌, subst, arith}
use Rattle.roles.specs.Sets.{roles_of}
use Rattle.roles.proofs.RoleLists.{From, roles_of-from, from_less}
use Rattle.text.specs.Ascii.{space}
use Rattle.text.proofs.PageLaws.{finishes-start, finishes-next, finishes-room, finishes_end}
use Rattle.sheet.specs.Text.{shown_by, names_text}
use Rattle.sheet.proofs.Parts.{names-next, names-end}
use Rattle.sheet.proofs.write.write_set.Goals as goal

pub loop-role-init : goal.loop-role-init
loop-role-init c =
    let a = c.args in
    let all = c.into_iter-role-iterator.ensures.into_iter_gives ∙ c.roles-role-items.ensures in
    (subst (From 0) (sym all) (roles_of-from a.s.bits), rw all (finishes-start a.page.now (names_text (shown_by a.names) (roles_of a.s.bits)) c.requires))

pub write_role-requires : goal.write_role-requires
write_role-requires c =
    let l = c.loop-role in
    let f = shown_by c.args.names in
    let here = subst (From 0) c.in-Some.ensures.steps l.invariant.0 in
    (omega (arith, here.1), finishes-room (space ∷ f c.in-Some.role) (names_text f c.next.new.self) l.invariant.1 (names-next f c.in-Some.ensures.steps))

pub loop-role-preserved : goal.loop-role-preserved
loop-role-preserved c =
    let l = c.loop-role in
    let f = shown_by c.args.names in
    let here = subst (From 0) c.in-Some.ensures.steps l.invariant.0 in
    (from_less _ 0 _ (omega arith) here.2, finishes-next (space ∷ f c.in-Some.role) (names_text f c.next.new.self) l.invariant.1 (names-next f c.in-Some.ensures.steps) c.write_role.ensures)

pub returns : goal.returns
returns c =
    let l = c.loop-role in
    finishes_end (rw (names-end (shown_by c.args.names) c.in-None.ensures.steps.0) at l.invariant.1)
