use Rattle.roles.specs.Sets.{roles_of}
use Rattle.roles.proofs.RoleLists.{From}
use Rattle.text.proofs.PageLaws.{Finishes}
use Rattle.sheet.specs.Text.{shown_by, names_text}
use Rattle.sheet.proofs.write.write_set.Given as goal

-- the text of the roles that are still to come finishes the set's
abbrev pub invariant-loop-role : goal.invariant-loop-role
invariant-loop-role l =
    From 0 l.role-iterator × Finishes l.initial.page (names_text (shown_by l.names) (roles_of l.fn.s.bits)) l.page (names_text (shown_by l.names) l.role-iterator)
