-- Turns taken one after another, and rows shown as turns. Assumes nothing.
use Rattle.std.proofs.Common.{◌≡◌, ℕ, ◌+◌, ◌-◌, min, Bool, false, cond, Option, None, ltb-true, ◌<◌, ◌≤◌, true, ltb, leb, List, [], ◌++◌, length, refl, subst, append_assoc, arith, length-append, ltb-false, le-leb}
use mathlib.Core.Path.{subst⁻¹}
use Rattle.area.specs.Layout.{most_rows}
use Rattle.std.specs.Bool.{then_some}
use Rattle.walker.specs.Walk.{walked}
use Rattle.answers.specs.Texts.{most_text}
use Rattle.answers.proofs.ShowLaws.{both, no-more-rows}
use Rattle.text.proofs.WriteLaws.{wrote_nothing}
use Rattle.answers.specs.Show as shown
use Rattle.answers.specs.Show.{shows_on, row_after, row_text_at, row_left, Shows, RowsShown}
use Rattle.lines.specs.Run.{Place, at_row, showing, row_shown, shown_text, turned, turn_text, goes_on, Advances, turns, Takes, none_more, one_more, row_number, before, RestShown}
use Rattle.lines.specs.declared.Run.{Run}

left_less : (room : ℕ) (t u : List ℕ) → room - length (t ++ u) ≡ room - length t - length u
left_less room t u = omega (arith, length-append t u)

pub takes-then : {room : ℕ} {m k n : Place} {t u : List ℕ} → Takes room m k t → Takes (room - length t) k n u → Takes room m n (t ++ u)
takes-then {room = room} {k = k} {n = n} {u = u} none_more a = subst (λ (r : ℕ). Takes r k n u) (let z : room - 0 ≡ room = omega arith in z) a
takes-then {room = room} {m = m} {n = n} {u = u} (one_more {k = k} {t = t} g c) a =
    subst⁻¹ (Takes room m n) (append_assoc (turn_text m) t u) (one_more g (takes-then c (subst (λ (r : ℕ). Takes r k n u) (left_less room (turn_text m) t) a)))

pub takes-advances : {room : ℕ} {m k n : Place} {t u : List ℕ} → Takes room m k t → Advances (room - length t) k n u → Advances room m n (t ++ u)
takes-advances {room = room} {k = k} {n = n} {u = u} none_more a = subst (λ (r : ℕ). Advances r k n u) (let z : room - 0 ≡ room = omega arith in z) a
takes-advances {room = room} {m = m} {n = n} {u = u} (one_more {k = k} {t = t} g c) a =
    subst⁻¹ (Advances room m n) (append_assoc (turn_text m) t u) (turns g (takes-advances c (subst (λ (r : ℕ). Advances r k n u) (left_less room (turn_text m) t) a)))

-- ---- a row shown is a turn

module _ (room : ℕ) (m : Place) (g : shows_on room m.row ≡ true) where
  row-showing : showing m ≡ true
  unfolding shows_on
  row-showing = (both (leb most_text room) (ltb m.row most_rows) g).1

  row_goes : goes_on room m ≡ true
  unfolding shows_on goes_on
  row_goes = rw ((both (leb most_text room) (ltb m.row most_rows) g).0, row-showing) refl

  row-turned : turned m ≡ at_row m (row_after m.area m.row)
  unfolding turned row_shown
  row-turned = rw row-showing refl

  row-text : turn_text m ≡ row_text_at m.area m.row
  unfolding turn_text shown_text
  row-text = rw row-showing refl

-- a number that no row has is none
shows-row : (room i : ℕ) → shows_on room i ≡ true → i < most_rows
unfolding shows_on
shows-row room i g = ltb-true i most_rows (both (leb most_text room) (ltb i most_rows) g).1

after-most : (l : List ℕ) (i : ℕ) → i < most_rows → min (row_after l i) most_rows ≡ row_after l i
after-most l i h = go (ltb i (length (walked l)))
  where
    go : (t : Bool) → min (cond t (i + 1) most_rows) most_rows ≡ cond t (i + 1) most_rows
    go true = omega arith
    go false = omega arith

pub left-number : (i : ℕ) → row_number (row_left i) ≡ min i most_rows
left-number i = go (ltb i most_rows) refl
  where
    go : (t : Bool) → ltb i most_rows ≡ t → row_number (then_some t i) ≡ min i most_rows
    go true e = refl
    go false e = let h = ltb-false i most_rows e in omega arith

-- where showing ends, a number that no row has is none
left-named : (i : ℕ) → row_left i ≡ row_left (row_number (row_left i))
left-named i = go (ltb i most_rows) refl
  where
    go : (t : Bool) → ltb i most_rows ≡ t → then_some t i ≡ row_left (row_number (then_some t i))
    go true e = let h = ltb-true i most_rows e in let small : min i most_rows ≡ i = omega arith in rw (small, e) refl
    go false e = refl

pub shows-named : {l : List ℕ} {room i : ℕ} {j : Option ℕ} {t : List ℕ} → Shows l room i j t → j ≡ row_left (row_number j)
shows-named {i = i} (shown.stops e) = left-named i
shows-named (shown.shows g c) = shows-named c

pub shows-takes : (m : Place) {room i : ℕ} {j : Option ℕ} {t : List ℕ} → Shows m.area room i j t → Takes room (at_row m (min i most_rows)) (at_row m (row_number j)) t
shows-takes m {room} {i} (shown.stops e) = rw left-number none_more
shows-takes m {room} {i} {j} (shown.shows {t = t} g c) =
    let n = at_row m i in
    let small : min i most_rows ≡ i = let h = shows-row room i g in omega arith in
    let after : min (row_after m.area i) most_rows ≡ row_after m.area i = after-most m.area i (shows-row room i g) in
    let rest : Takes (room - length (turn_text n)) (turned n) (at_row m (row_number j)) t =
    subst⁻¹ (λ (x : List ℕ). Takes (room - length x) (turned n) (at_row m (row_number j)) t) (row-text room n g) (subst⁻¹ (λ (x : Place). Takes (room - length (row_text_at m.area i)) x (at_row m (row_number j)) t) (row-turned room n g) (subst (λ (k : ℕ). Takes (room - length (row_text_at m.area i)) (at_row m k) (at_row m (row_number j)) t) after (shows-takes m c))) in
    rw small (subst (λ (x : List ℕ). Takes room n (at_row m (row_number j)) (x ++ t)) (row-text room n g) (one_more (row_goes room n g) rest))

-- where rows are left, there is no room
pub shows-settled : {l : List ℕ} {room i : ℕ} {j : Option ℕ} {t : List ℕ} → Shows l room i j t → most_text ≤ room - length t → most_rows ≤ row_number j
unfolding shows_on
shows-settled {room = room} {i = i} (shown.stops e) h = rw left-number (let k = ltb-false i most_rows (rw (le-leb most_text room (omega arith)) at e) in omega arith)
shows-settled {l} {room} {i} (shown.shows {t = t} g c) h = shows-settled c (let n = left_less room (row_text_at l i) t in omega arith)

-- ---- the rows left from before

module _ (w : Run) (l d : List ℕ) where
  pub no-rest : w.row ≡ None → RestShown w l d (before w) d
  no-rest h = record {
    read = refl;
    run = refl;
    rows = rw h (record { text = []; shows = shown.stops (no-more-rows (length d - 0) most_rows (omega arith)); wrote = wrote_nothing d 0; inside = omega arith });
  }
