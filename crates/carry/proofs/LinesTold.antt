-- The lines of an area, as text: each reads as its request, is answered 0, and the area comes to hold what was printed. Assumes nothing.
--     rows_requests, requests_of  the requests of the lines of rows, of a state
--     asked es                    the request that tells of each event
--     Zeros l qs m                every request is answered 0, without rows, from the area l on, and m is the area afterwards
use mathlib.Core.Path.{◌≡◌, refl, sym, ap, ap₂, ◌∙◌, subst, subst⁻¹}
use mathlib.Core.List.{List, [], ◌∷◌, ◌++◌, append-nil, append_assoc}
use Prim.Native.Nat.{ℕ, ◌≤◌}
use native.Mathlib.Omega.{arith}
use borrow.Author.Tests.{eq-eqb, le-leb}
use lib.ListN.{length}
use Rattle.roles.specs.Sets.{most_roles}
use Rattle.meaning.specs.declared.Event.{Event}
use Rattle.meaning.specs.declared.Happening.{Happening}
use Rattle.meaning.specs.Events.{last_policy_state}
use Rattle.meaning.specs.Rows.{bare}
use Rattle.area.specs.Layout.{area_bytes}
use Rattle.area.specs.State.{Entry, State, opened, GoodRows, GoodState, each, area_of}
use Rattle.calls.specs.Calls.{Out, writes, open_of}
use Rattle.calls.specs.Histories.{out_of, call_of}
use Rattle.calls.proofs.CallLaws.{open-recorded}
use Rattle.text.specs.Ascii.{lf}
use Rattle.requests.specs.declared.Request.{Request}
use Rattle.requests.specs.declared.Request.TheVariants.{Open, Told}
use Rattle.requests.specs.Request.{request_text, told}
use Rattle.requests.proofs.Theorems.{request-back, request-length, request-nolf}
use Rattle.split.specs.Split.{Held, short, none, is_none, said, lines_from, lines_of}
use Rattle.split.proofs.SplitLaws.{all-fits, lines-whole}
use Rattle.answers.specs.Answers.{answer_of}
use Rattle.answers.specs.Texts.{answer_text}
use Rattle.lines.specs.Written.{shown, rows_text, next_number, line_written, written, area_after}
use Rattle.print.specs.Printed.{tells, line_of, lines_text, open_line, row_requests, row_lines, printed, replies_of}
use Rattle.print.proofs.LineLaws.{lines-append}
use Rattle.print.proofs.PrintLaws.{AllInRange, open-in-range, row-in-range}
use Rattle.carry.specs.Carry.{zeros_from}
use Rattle.carry.proofs.AreaTold.{events_for, events, Tells, tell-all}

-- ---- the requests of the lines

abbrev rows_requests : ℕ → List Entry → List Request
rows_requests g [] = []
rows_requests g (e ∷ es) = row_requests g e ++ rows_requests g es

abbrev pub requests_of : State → List Request
requests_of s = Open s.roles s.policy ∷ rows_requests s.policy s.rows

rows-lines : (g : ℕ) (es : List Entry) → each (row_lines g) es ≡ lines_text (rows_requests g es)
unfolding each lines_text row_lines
rows-lines g [] = refl
rows-lines g (e ∷ es) = ap (λ (t : List ℕ). lines_text (row_requests g e) ++ t) (rows-lines g es) ∙ sym (lines-append (row_requests g e) (rows_requests g es))

pub printed-lines : (s : State) → printed s ≡ lines_text (requests_of s)
unfolding printed lines_text
printed-lines s = ap (λ (t : List ℕ). open_line s ++ t) (rows-lines s.policy s.rows)

both-in-range : (qs rs : List Request) → AllInRange qs → AllInRange rs → AllInRange (qs ++ rs)
both-in-range [] rs a b = b
both-in-range (q ∷ qs) rs a b = (a.0, both-in-range qs rs a.1 b)

rows-in-range : (n last : ℕ) → n ≤ most_roles → (i : ℕ) → i ≤ last_policy_state → (es : List Entry) → GoodRows n last es → AllInRange (rows_requests i es)
rows-in-range n last few i small [] g = tt
rows-in-range n last few i small (e ∷ es) g =
    both-in-range (row_requests i e) (rows_requests i es) (row-in-range n last few i small e (record { above = g.0; valid = g.1; good-row = g.2 })) (rows-in-range n e.permission few i small es g.3)

pub all-in-range : (s : State) → GoodState s → AllInRange (requests_of s)
all-in-range s g = (open-in-range s g.most-roles g.policy-small, rows-in-range s.roles 0 g.most-roles s.policy g.policy-small s.rows g.good-rows)

-- ---- the lines of the text are those of the requests

held-each : List Request → List Held
held-each [] = []
held-each (q ∷ qs) = short (request_text q) ∷ held-each qs

lines_are : (qs : List Request) → AllInRange qs → lines_of (lines_text qs) ≡ held-each qs
unfolding lines_text line_of held-each lines_from is_none
lines_are [] h = refl
lines_are (q ∷ qs) h =
    ap lines_of (append_assoc (request_text q) (lf ∷ []) (lines_text qs))
    ∙ lines-whole none (request_text q) (lines_text qs) (request-nolf q)
    ∙ ap₂ (λ (x : Held) (l : List Held). x ∷ l) (all-fits [] (request_text q) (omega (arith, request-length q h.0))) (lines_are qs h.1)

-- ---- all answered 0

abbrev pub Zeros : List ℕ → List Request → List ℕ → Type 0
Zeros l [] m = l ≡ m
Zeros l (q ∷ qs) m = ((answer_of l q).answer ≡ bare 0) × (shown l q ≡ []) × Zeros (answer_of l q).area qs m

module _ (m : List ℕ) where
  line-zero : (k : ℕ) (l : List ℕ) (q : Request) → (answer_of l q).answer ≡ bare 0 → shown l q ≡ [] → line_written k l q ≡ answer_text k (bare 0)
  unfolding line_written rows_text
  line-zero k l q a b = ap₂ (λ (x : List ℕ) (y : List ℕ). x ++ y) (ap (answer_text k) a) (ap rows_text b) ∙ append-nil (answer_text k (bare 0))

  each-zero : (k : ℕ) (l : List ℕ) (qs : List Request) → AllInRange qs → Zeros l qs m → written k l (held-each qs) ≡ zeros_from k (length (held-each qs))
  unfolding written held-each zeros_from said
  each-zero k l [] h z = refl
  each-zero k l (q ∷ qs) h z =
      rw (request-back q h.0)
      (ap₂ (λ (x : List ℕ) (y : List ℕ). x ++ y) (line-zero k l q z.0 z.1) (each-zero (next_number k) (answer_of l q).area qs h.1 z.2))

  each_left : (l : List ℕ) (qs : List Request) → AllInRange qs → Zeros l qs m → area_after l (held-each qs) ≡ m
  unfolding area_after held-each said
  each_left l [] h z = z
  each_left l (q ∷ qs) h z =
      subst⁻¹ (λ (x : Request). area_after (answer_of l x).area (held-each qs) ≡ m) (request-back q h.0) (each_left (answer_of l q).area qs h.1 z.2)

  pub lines-zero : (k : ℕ) (l : List ℕ) (qs : List Request) → AllInRange qs → Zeros l qs m → written k l (lines_of (lines_text qs)) ≡ zeros_from k (length (lines_of (lines_text qs)))
  lines-zero k l qs h z = rw (lines_are qs h) (each-zero k l qs h z)

  pub lines_left : (l : List ℕ) (qs : List Request) → AllInRange qs → Zeros l qs m → area_after l (lines_of (lines_text qs)) ≡ m
  lines_left l qs h z = rw (lines_are qs h) (each_left l qs h z)

-- ---- events as requests

asked : List Event → List Request
asked [] = []
asked (e ∷ es) = Told e ∷ asked es

asked-append : (es fs : List Event) → asked (es ++ fs) ≡ asked es ++ asked fs
unfolding asked
asked-append [] fs = refl
asked-append (e ∷ es) fs = ap (λ (x : List Request). Told e ∷ x) (asked-append es fs)

asked-for : (p : ℕ) (es : List Happening) (g : ℕ) → asked (events_for p es g) ≡ tells p es g
unfolding asked
asked-for p [] g = refl
asked-for p (e ∷ es) g = ap (λ (x : List Request). told p e g ∷ x) (asked-for p es g)

asked-events : (g : ℕ) (es : List Entry) → asked (events g es) ≡ rows_requests g es
unfolding asked
asked-events g [] = refl
asked-events g (e ∷ es) =
    asked-append (events_for e.permission (replies_of e.row) g) (events g es)
    ∙ ap₂ (λ (x : List Request) (y : List Request). x ++ y) (asked-for e.permission (replies_of e.row) g) (asked-events g es)

zeros-asked : (es : List Event) (l m : List ℕ) → Tells es l m → Zeros l (asked es) m
unfolding asked answer_of shown
zeros-asked [] l m t = t
zeros-asked (e ∷ es) l m t = (ap bare t.0, refl, zeros-asked es (out_of (call_of e) l).area m t.1)

-- a good state, told from any area of the right length on
module _ (s : State) (g : GoodState s) (m : List ℕ) (long : length m ≡ area_bytes) where
  pub opens : open_of m s.roles s.policy ≡ writes 0 (opened s.roles s.policy)
  opens = open-recorded m s.roles s.policy (eq-eqb (length m) area_bytes long) (rw (le-leb 1 s.roles g.some-roles, le-leb s.roles most_roles g.most-roles) refl)

  pub zeros-all : Zeros m (requests_of s) (area_of s)
  unfolding answer_of shown
  zeros-all = (
    ap (λ (o : Out). bare o.answer) opens,
    refl,
    subst⁻¹ (λ (o : Out). Zeros o.area (rows_requests s.policy s.rows) (area_of s)) opens
        (subst (λ (qs : List Request). Zeros (area_of (opened s.roles s.policy)) qs (area_of s)) (asked-events s.policy s.rows)
        (zeros-asked (events s.policy s.rows) (area_of (opened s.roles s.policy)) (area_of s) (tell-all s g))),
  )
