-- `text::Page::set` meets its contract: the roles that are still to come finish the text. Assumes nothing.
use Rattle.std.proofs.Common.{true, sym, ◌∙◌}
use Rattle.text.specs.Set.{role_text, roles_text, set_text}
use Rattle.text.proofs.WriteLaws.{empty-text, full-text, next-text, no-text}
use Rattle.text.proofs.PageLaws.{finishes-start, finishes-next, finishes-room, finishes_end}
use Rattle.text.proofs.Page.set.Goals as goal

pub push-requires : goal.push-requires
push-requires c = rw (empty-text c.args.s.bits (sym c.is_empty.ensures ∙ c.if-is_empty.true)) at c.requires

pub returns-then-is_empty : goal.returns-then-is_empty
returns-then-is_empty c = rw (empty-text c.args.s.bits (sym c.is_empty.ensures ∙ c.if-is_empty.true)) c.push.ensures

pub loop-role-init : goal.loop-role-init
loop-role-init c =
    let a = c.args in
    let full = full-text a.s.bits (sym c.is_empty.ensures ∙ c.if-is_empty.false) (c.into_iter-role-iterator.ensures.into_iter_gives ∙ c.roles-role-items.ensures) in
    rw (← full) (finishes-start a.self.now (set_text a.s.bits) c.requires)

pub role-requires : goal.role-requires
role-requires c =
    let l = c.loop-role in
    finishes-room (role_text l.later c.in-Some.role) (roles_text true c.next.new.self) l.invariant (next-text l.later c.in-Some.ensures.steps)

pub loop-role-preserved : goal.loop-role-preserved
loop-role-preserved c =
    let l = c.loop-role in
    finishes-next (role_text l.later c.in-Some.role) (roles_text true c.next.new.self) l.invariant (next-text l.later c.in-Some.ensures.steps) c.role.ensures

pub returns : goal.returns
returns c =
    let l = c.loop-role in
    finishes_end (rw (no-text l.later c.in-None.ensures.steps.0) at l.invariant)
