-- `text::Page::role` meets its contract. Assumes nothing.
use Rattle.std.proofs.Common.{[], ◌∷◌}
use Rattle.text.specs.Ascii.{comma}
use Rattle.text.specs.Number.{number_text}
use Rattle.text.proofs.WriteLaws.{room-first, later-text, first-text}
use Rattle.text.proofs.PageLaws.{adds_then, room-next}
use Rattle.text.proofs.Page.role.Goals.{then-later, else-later}
use Rattle.text.proofs.Page.role.Goals as goal

pub push-requires : goal.push-requires
push-requires c = let a = c.args in room-first a.self.now.at (comma ∷ []) (number_text a.r) (rw (later-text a.later a.r c.if-later.true) at c.requires)

pub number-requires : goal.number-requires
number-requires c = let a = c.args in elim c.if-later.branch [
  | then-later w ↦ rw w.self-is (room-next w.push.ensures (number_text a.r) (rw (later-text a.later a.r w.if-later.true) at c.requires))
  | else-later w ↦ rw w.self-is (rw (first-text a.later a.r w.if-later.false) at c.requires)
]

pub returns : goal.returns
returns c = let a = c.args in elim c.if-later.branch [
  | then-later w ↦ rw (later-text a.later a.r w.if-later.true) (adds_then w.push.ensures (rw w.self-is at c.number.ensures))
  | else-later w ↦ rw (first-text a.later a.r w.if-later.false) (rw w.self-is at c.number.ensures)
]
