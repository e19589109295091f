-- The places that a line read comes to. Assumes nothing.
use Rattle.std.proofs.Common.{◌≡◌, ℕ, suc, ◌+◌, ◌-◌, ◌<◌, ◌≤◌, min, Bool, true, false, cond, ltb, List, [], ◌++◌, length, take, drop, sym, refl, ap, ◌∙◌, subst, arith, length-append, length-drop, drop_of_length-le, take_all, drop-drop, le-ltb, lt-ltb, le-leb}
use mathlib.Core.Path.{subst⁻¹}
use Rattle.area.specs.Layout.{most_rows, good_bytes}
use Rattle.walker.specs.Walk.{first_row}
use Rattle.text.proofs.WriteLaws.{wrote_nothing}
use Rattle.requests.specs.declared.Request.{Request}
use Rattle.requests.specs.declared.Request.TheVariants.{Open, Told, Decide, Forget, Show, Unreadable}
use Rattle.split.specs.Split as split
use Rattle.text.specs.Lines.{before_lf}
use Rattle.split.specs.Split.{held_all, said, held_in}
use Rattle.split.specs.declared.Splitter.{Splitter}
use Rattle.text.proofs.LineLaws.{before-most}
use Rattle.answers.specs.Texts.{most_text, answer_text}
use Rattle.answers.specs.Show.{Shows}
use Rattle.answers.specs.Answers.{answer_of, first_shown, Answers}
use Rattle.answers.specs.declared.show.Shown.{Shown}
use Rattle.lines.specs.Written.{next_number}
use Rattle.lines.specs.Run.{Place, at_row, asked, answered, line_read, line_text, turned, turn_text, goes_on, Takes, none_more, one_more, row_number, placed, Ready, Comes}
use Rattle.lines.specs.declared.Progress.{Progress}
use Rattle.lines.proofs.Rows.{shows-named, shows-takes, shows-settled}

first-most : (l : List ℕ) (q : Request) → min (first_shown l q) most_rows ≡ first_shown l q
unfolding first_shown first_row
first-most l (Open n g) = refl
first-most l (Told e) = refl
first-most l (Decide p s) = refl
first-most l (Forget p) = refl
first-most l Show = go (good_bytes l)
  where
    go : (t : Bool) → min (cond t 0 most_rows) most_rows ≡ cond t 0 most_rows
    go true = refl
    go false = refl
first-most l Unreadable = refl

-- ---- a line read is a turn

module _ (p : Progress) (l bs d : List ℕ) (ready : Ready p bs d) where
  line-goes : goes_on (length d - p.written) (placed p l bs) ≡ true
  unfolding goes_on
  line-goes =
      let room : most_text ≤ length d - p.written = let r = ready.room in omega arith in
      let input : 0 < length (drop p.read bs) = let r = ready.read in omega (arith, length-drop p.read bs) in
      rw (le-leb most_text (length d - p.written) room, ready.row, lt-ltb 0 (length (drop p.read bs)) input) refl

  line-turned : turned (placed p l bs) ≡ line_read (placed p l bs)
  unfolding turned
  line-turned = rw ready.row refl

  line-text : turn_text (placed p l bs) ≡ line_text (placed p l bs)
  unfolding turn_text
  line-text = rw ready.row refl

  -- what follows the turn, after it
  line-takes : {m k : Place} {t u : List ℕ} → line_read (placed p l bs) ≡ m → line_text (placed p l bs) ≡ t → Takes (length d - p.written - length t) m k u → Takes (length d - p.written) (placed p l bs) k (t ++ u)
  line-takes {k = k} {t = t} {u = u} e f c =
      subst (λ (x : List ℕ). Takes (length d - p.written) (placed p l bs) k (x ++ u)) (line-text ∙ f)
      (one_more line-goes (subst⁻¹ (λ (x : List ℕ). Takes (length d - p.written - length x) (turned (placed p l bs)) k u) (line-text ∙ f) (subst⁻¹ (λ (x : Place). Takes (length d - p.written - length t) x k u) (line-turned ∙ e) c)))

-- ---- the two ways to read a line

module _ (p : Progress) (l bs d : List ℕ) (e : ℕ) (ready : Ready p bs d) (end : e ≡ p.read + before_lf (drop p.read bs)) where
  rest-length : length (drop p.read bs) ≡ length bs - p.read
  rest-length = length-drop p.read bs

  pub end-inside : e ≤ length bs
  end-inside = let r = ready.read in omega (arith, before-most (drop p.read bs), rest-length)

  between : e - p.read ≡ before_lf (drop p.read bs)
  between = omega arith

  module _ (s : Splitter) (whole : e ≡ length bs) (k : held_in s ≡ held_all (held_in p.run.line) (take (e - p.read) (drop p.read bs))) where
    open-line : ltb (before_lf (drop p.read bs)) (length (drop p.read bs)) ≡ false
    open-line = le-ltb (before_lf (drop p.read bs)) (length (drop p.read bs)) (let r = ready.read in omega (arith, rest-length, between))

    abbrev keeps : Progress
    keeps = record { run = record { line = s; number = p.run.number; row = p.run.row }; read = e; written = p.written }

    kept-place : line_read (placed p l bs) ≡ placed keeps l bs
    unfolding line_read
    kept-place =
        let r = ready.read in
        let all : take (e - p.read) (drop p.read bs) ≡ drop p.read bs = take_all (e - p.read) (drop p.read bs) (omega (arith, rest-length)) in
        let past : drop e bs ≡ [] = drop_of_length-le bs {i = e} (omega arith) in
        rw (open-line, past, k, all) refl

    kept-text : line_text (placed p l bs) ≡ []
    unfolding line_text
    kept-text = rw open-line refl

    pub line_kept : Comes p l bs d keeps l d
    line_kept = record {
      text = [];
      further = let r = ready.read in omega arith;
      read = end-inside;
      wrote = wrote_nothing d p.written;
      inside = let r = ready.room in omega arith;
      settled = λ h. rw ready.row (omega arith);
      row = rw ready.row refl;
      takes = line-takes p l bs d ready kept-place kept-text none_more;
    }

  module _ (open-ended : e ≡ length bs → ⊥) (q : Request) (a : Shown) (l' : List ℕ) (s : Splitter) (k : ℕ) (d' : List ℕ)
      (said-q : q ≡ said (held_all (held_in p.run.line) (take (e - p.read) (drop p.read bs)))) (answers : Answers l q p.run.number p.written d a l' d')
      (new : held_in s ≡ split.none) (number : k ≡ next_number p.run.number) where
    ends : ltb (before_lf (drop p.read bs)) (length (drop p.read bs)) ≡ true
    ends = lt-ltb (before_lf (drop p.read bs)) (length (drop p.read bs)) (let i = end-inside in omega (arith, rest-length, between))

    asked-q : asked (placed p l bs) ≡ q
    asked-q = sym (said-q ∙ ap (λ (n : ℕ). said (held_all (held_in p.run.line) (take n (drop p.read bs)))) between)

    abbrev goes-on-at : Progress
    goes-on-at = record { run = record { line = s; number = k; row = a.row }; read = e + 1; written = a.written }

    abbrev answer : List ℕ
    answer = answer_text p.run.number (answer_of l q).answer

    answered-place : line_read (placed p l bs) ≡ answered (placed p l bs) q
    unfolding line_read
    answered-place = rw (ends, asked-q) refl

    answered-text : line_text (placed p l bs) ≡ answer
    unfolding line_text
    answered-text = rw (ends, asked-q) refl

    shown-place : at_row (answered (placed p l bs) q) (row_number a.row) ≡ placed goes-on-at l' bs
    shown-place =
        let behind : drop (e + 1) bs ≡ drop (suc (before_lf (drop p.read bs))) (drop p.read bs) =
        ap (λ (n : ℕ). drop n bs) (let n : e + 1 ≡ p.read + suc (before_lf (drop p.read bs)) = omega arith in n) ∙ sym (drop-drop (suc (before_lf (drop p.read bs))) p.read bs) in
        rw (behind, new, number, answers.area) refl

    -- the rows after the answer
    shown-rows : Takes (length d - p.written - length answer) (answered (placed p l bs) q) (placed goes-on-at l' bs) answers.written.text
    shown-rows =
        let room : length d - (p.written + length answer) ≡ length d - p.written - length answer = omega arith in
        subst (λ (x : Place). Takes (length d - p.written - length answer) (answered (placed p l bs) q) x answers.written.text) shown-place
        (subst (λ (i : ℕ). Takes (length d - p.written - length answer) (at_row (answered (placed p l bs) q) i) (at_row (answered (placed p l bs) q) (row_number a.row)) answers.written.text) (first-most l q)
        (shows-takes (answered (placed p l bs) q) (subst (λ (n : ℕ). Shows (answer_of l q).area n (first_shown l q) a.row answers.written.text) room answers.written.shows)))

    pub line-answered : Comes p l bs d goes-on-at l' d'
    line-answered = record {
      text = answer ++ answers.written.text;
      further = let r = ready.read in omega arith;
      read = let i = end-inside in omega arith;
      wrote = answers.written.wrote;
      inside = answers.written.inside;
      settled = λ h. shows-settled answers.written.shows (let n = answers.written.wrote.next in let m = length-append answer answers.written.text in omega arith);
      row = shows-named answers.written.shows;
      takes = line-takes p l bs d ready answered-place answered-text shown-rows;
    }
