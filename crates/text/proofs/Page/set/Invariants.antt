use Rattle.text.specs.Set.{roles_text, set_text}
use Rattle.text.proofs.PageLaws.{Finishes}
use Rattle.text.proofs.Page.set.Given as goal

-- the text of the roles that are still to come finishes the set's
abbrev pub invariant-loop-role : goal.invariant-loop-role
invariant-loop-role l = Finishes l.initial.self (set_text l.fn.s.bits) l.self (roles_text l.later l.role-iterator)
