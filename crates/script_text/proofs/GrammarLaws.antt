-- Reading lines one after another and the plain grammar agree.
use Rattle.std.proofs.Common.{◌≡◌, ℕ, ◌+◌, ◌<◌, ◌≤◌, inl, inr, Bool, true, false, cond, ◌&&◌, ◌||◌, leb, ltb, List, [], ◌∷◌, ◌++◌, length, Result, Ok, Err, refl, sym, ap, subst, ◌∙◌, arith, zero-add, append_assoc, length-append}
use Rattle.std.proofs.lemmas.Bool.{or_parts, leb-false, lt-leb, ltb-true, ltb-false, le-ltb, lt-ltb}
use Rattle.std.proofs.lemmas.List.{append-nil}
use Rattle.std.proofs.lemmas.List.Sums.{sum_by-append}
use Rattle.line_text.specs.declared.limits.TheConstants.{MOST_TEXT_BYTES}
use Rattle.script_text.specs.declared.limits.TheConstants.{MOST_COMMANDS, MOST_GRANTS}
use Rattle.line_text.specs.Lines.{kept_lines}
use Rattle.script_text.specs.Script.{Commands, command_of, is_grant, grants, is_one_too_many, next_command, at_line, commands_after, script_of}
use Rattle.line_text.specs.Refusals.{Refusal, refusal, cause_number, ◌>>=◌}
use Rattle.script_text.specs.Grammar.{Spells, AreFew, IsSpelled, IsFirstRefused, IsFaulty}
use Rattle.line_text.specs.declared.cause.Cause.{Cause}
use Rattle.line_text.specs.declared.cause.Cause.TheVariants as cause
use Rattle.script_text.specs.declared.command.Command.{Command}

-- ---- the limits

grants_more : (before : Commands) (x : ℕ × Command) (after : Commands) → grants (before ++ x ∷ after) ≡ grants before + (cond (is_grant x.1) 1 0 + grants after)
grants_more before x after =
    let f : ℕ × Command → ℕ = λ c. cond (is_grant c.1) 1 0 in
    sum_by-append f before (x ∷ after) ∙ (ap (λ (k : ℕ). grants before + k) (sum_by-append f (x ∷ []) after)
    ∙ ap (λ (k : ℕ). grants before + (k + grants after)) (zero-add (cond (is_grant x.1) 1 0)))

few_grants : (t : Bool) (g : ℕ) → g ≤ MOST_GRANTS → (t && leb MOST_GRANTS g) ≡ false → g + (cond t 1 0 + 0) ≤ MOST_GRANTS
few_grants true g few test = omega (arith, leb-false MOST_GRANTS g test)
few_grants false g few test = omega arith

few_more : (before : Commands) (n : ℕ) (c : Command) → AreFew before → is_one_too_many before c ≡ false → AreFew (before ++ (n, c) ∷ [])
few_more before n c few test =
    let parts = or_parts (leb MOST_COMMANDS (length before)) (is_grant c && leb MOST_GRANTS (grants before)) test in
    let len = length-append before ((n, c) ∷ []) in
    (omega (arith, leb-false MOST_COMMANDS (length before) parts.0), omega (arith, grants_more before (n, c) [], few_grants (is_grant c) (grants before) few.1 parts.1))

has_room : (t : Bool) (l g more : ℕ) → l < MOST_COMMANDS → g + (cond t 1 0 + more) ≤ MOST_GRANTS → (leb MOST_COMMANDS l || (t && leb MOST_GRANTS g)) ≡ false
has_room true l g more short few = rw (lt-leb MOST_COMMANDS l short, lt-leb MOST_GRANTS g (omega arith)) refl
has_room false l g more short few = rw (lt-leb MOST_COMMANDS l short) refl

not_too_many : (before : Commands) (n : ℕ) (c : Command) (after : Commands) → AreFew (before ++ (n, c) ∷ after) → is_one_too_many before c ≡ false
not_too_many before n c after few =
    let len = length-append before ((n, c) ∷ after) in
    has_room (is_grant c) (length before) (grants before) (grants after) (omega (arith, few.0)) (omega (arith, few.1, grants_more before (n, c) after))

-- ---- from lines to commands

tested : (t : Bool) (d c : Command) → ◌≡◌ {A = Result Command Cause} (cond t (Err cause.Many) (Ok d)) (Ok c) → (t ≡ false) × (d ≡ c)
tested true d c e = absurd cc
tested false d c e = (refl, cc)

-- a line that is the next command
next_parts : (before : Commands) (r : Result Command Cause) (c : Command) → (r >>= λ d. cond (is_one_too_many before d) (Err cause.Many) (Ok d)) ≡ Ok c → (r ≡ Ok c) × (is_one_too_many before c ≡ false)
next_parts before (Err why) c e = absurd cc
next_parts before (Ok d) c e =
    let t = tested (is_one_too_many before d) d c e in
    (ap Ok t.1, subst (λ (x : Command). is_one_too_many before x ≡ false) t.1 t.0)

-- the commands of lines, behind others
record AreRead (before : Commands) (lines : List (ℕ × List (List ℕ))) (all : Commands) : Type 0 where
  commands : Commands
  parts : all ≡ before ++ commands
  spelled : Spells lines commands
  few : AreFew all

ok_same : (x y : Commands) → ◌≡◌ {A = Result Commands Refusal} (Ok x) (Ok y) → x ≡ y
ok_same x y e = cc

err_same : (x y : Refusal) → ◌≡◌ {A = Result Commands Refusal} (Err x) (Err y) → x ≡ y
err_same x y e = cc

line_read : (before : Commands) (line : ℕ × List (List ℕ)) (lines : List (ℕ × List (List ℕ))) (all : Commands) (next : Result Command Cause) → next_command before line.1 ≡ next → AreFew before
    → ((c : Command) → AreFew (before ++ (line.0, c) ∷ []) → commands_after (before ++ (line.0, c) ∷ []) lines ≡ Ok all → AreRead (before ++ (line.0, c) ∷ []) lines all)
    → (at_line line.0 next >>= λ c. commands_after (before ++ (line.0, c) ∷ []) lines) ≡ Ok all → AreRead before (line ∷ lines) all
line_read before line lines all (Err why) is few more e = absurd cc
line_read before line lines all (Ok c) is few more e =
    let parts = next_parts before (command_of line.1) c is in
    let rest = more c (few_more before line.0 c few parts.1) e in
    record {
      commands = (line.0, c) ∷ rest.commands;
      parts = rest.parts ∙ append_assoc before ((line.0, c) ∷ []) rest.commands;
      spelled = (refl, parts.0, rest.spelled);
      few = rest.few;
    }

lines_read : (before : Commands) (lines : List (ℕ × List (List ℕ))) (all : Commands) → AreFew before → commands_after before lines ≡ Ok all → AreRead before lines all
lines_read before [] all few e =
    let same = ok_same before all e in
    record { commands = []; parts = sym same ∙ sym (append-nil before); spelled = tt; few = subst AreFew same few }
lines_read before (line ∷ lines) all few e =
    line_read before line lines all (next_command before line.1) refl few (λ c. lines_read (before ++ (line.0, c) ∷ []) lines all) e

-- the first line that is refused, behind others
record IsStopped (before : Commands) (lines : List (ℕ × List (List ℕ))) (r : Refusal) : Type 0 where
  front : List (ℕ × List (List ℕ))
  number : ℕ
  words : List (List ℕ)
  back : List (ℕ × List (List ℕ))
  commands : Commands
  why : Cause
  parts : lines ≡ front ++ (number, words) ∷ back
  spelled : Spells front commands
  few : AreFew (before ++ commands)
  refused : next_command (before ++ commands) words ≡ Err why
  told : r ≡ refusal number why

line_stops : (before : Commands) (line : ℕ × List (List ℕ)) (lines : List (ℕ × List (List ℕ))) (r : Refusal) (next : Result Command Cause) → next_command before line.1 ≡ next → AreFew before
    → ((c : Command) → AreFew (before ++ (line.0, c) ∷ []) → commands_after (before ++ (line.0, c) ∷ []) lines ≡ Err r → IsStopped (before ++ (line.0, c) ∷ []) lines r)
    → (at_line line.0 next >>= λ c. commands_after (before ++ (line.0, c) ∷ []) lines) ≡ Err r → IsStopped before (line ∷ lines) r
line_stops before line lines r (Err why) is few more e =
    let none : before ++ [] ≡ before = append-nil before in
    record {
      front = [];
      number = line.0;
      words = line.1;
      back = lines;
      commands = [];
      why = why;
      parts = refl;
      spelled = tt;
      few = subst AreFew (sym none) few;
      refused = ap (λ (cs : Commands). next_command cs line.1) none ∙ is;
      told = sym (err_same (refusal line.0 why) r e);
    }
line_stops before line lines r (Ok c) is few more e =
    let parts = next_parts before (command_of line.1) c is in
    let rest = more c (few_more before line.0 c few parts.1) e in
    let grouped : (before ++ (line.0, c) ∷ []) ++ rest.commands ≡ before ++ (line.0, c) ∷ rest.commands = append_assoc before ((line.0, c) ∷ []) rest.commands in
    record {
      front = line ∷ rest.front;
      number = rest.number;
      words = rest.words;
      back = rest.back;
      commands = (line.0, c) ∷ rest.commands;
      why = rest.why;
      parts = ap (λ (ls : List (ℕ × List (List ℕ))). line ∷ ls) rest.parts;
      spelled = (refl, parts.0, rest.spelled);
      few = subst AreFew grouped rest.few;
      refused = subst (λ (cs : Commands). next_command cs rest.words ≡ Err rest.why) grouped rest.refused;
      told = rest.told;
    }

lines_stop : (before : Commands) (lines : List (ℕ × List (List ℕ))) (r : Refusal) → AreFew before → commands_after before lines ≡ Err r → IsStopped before lines r
lines_stop before [] r few e = absurd cc
lines_stop before (line ∷ lines) r few e =
    line_stops before line lines r (next_command before line.1) refl few (λ c. lines_stop (before ++ (line.0, c) ∷ []) lines r) e

-- ---- from commands to lines

spelled_read : (before : Commands) (lines behind : List (ℕ × List (List ℕ))) (commands : Commands) → Spells lines commands → AreFew (before ++ commands)
    → commands_after before (lines ++ behind) ≡ commands_after (before ++ commands) behind
spelled_read before [] behind [] s few = ap (λ (cs : Commands). commands_after cs behind) (sym (append-nil before))
spelled_read before [] behind (c ∷ commands) s few = absurd s
spelled_read before (line ∷ lines) behind [] s few = absurd s
spelled_read before (line ∷ lines) behind (c ∷ commands) s few =
    let room = not_too_many before c.0 c.1 commands few in
    let grouped : (before ++ c ∷ []) ++ commands ≡ before ++ c ∷ commands = append_assoc before (c ∷ []) commands in
    let first : commands_after before (line ∷ (lines ++ behind)) ≡ commands_after (before ++ c ∷ []) (lines ++ behind) = rw (s.0, s.1, room) refl in
    first ∙ (spelled_read (before ++ c ∷ []) lines behind commands s.2 (subst AreFew (sym grouped) few) ∙ ap (λ (cs : Commands). commands_after cs behind) grouped)

-- ---- whole texts

none_few : AreFew []
none_few = (omega arith, omega arith)

is_short : (t : Bool) (r : Result Commands Refusal) (all : Commands) → cond t (Err (refusal MOST_TEXT_BYTES cause.Long)) r ≡ Ok all → (t ≡ false) × (r ≡ Ok all)
is_short true r all e = absurd cc
is_short false r all e = (refl, e)

pub scripts_are_spelled : (text : List ℕ) (commands : Commands) → script_of text ≡ Ok commands → IsSpelled text commands
scripts_are_spelled text commands e =
    let short = is_short (ltb MOST_TEXT_BYTES (length text)) (commands_after [] (kept_lines text)) commands e in
    let read = lines_read [] (kept_lines text) commands none_few short.1 in
    record {
      short = ltb-false MOST_TEXT_BYTES (length text) short.0;
      lines = subst (Spells (kept_lines text)) (sym read.parts) read.spelled;
      few = read.few;
    }

pub spelled_are_scripts : (text : List ℕ) (commands : Commands) → IsSpelled text commands → script_of text ≡ Ok commands
spelled_are_scripts text commands s =
    rw (le-ltb MOST_TEXT_BYTES (length text) s.short)
    (ap (commands_after []) (sym (append-nil (kept_lines text))) ∙ spelled_read [] (kept_lines text) [] commands s.lines s.few)

refusal_parts : (place number c : ℕ) (why : Cause) → ◌≡◌ {A = Refusal} (record { place = place; cause = c }) (refusal number why) → (place ≡ number) × (c ≡ cause_number why)
refusal_parts place number c why e = (ap (λ (r : Refusal). r.place) e, ap (λ (r : Refusal). r.cause) e)

refused_by_length : (t : Bool) (text : List ℕ) (place c : ℕ) → ltb MOST_TEXT_BYTES (length text) ≡ t → cond t (Err (refusal MOST_TEXT_BYTES cause.Long)) (commands_after [] (kept_lines text)) ≡ Err (record { place = place; cause = c }) → IsFaulty text place c
refused_by_length true text place c long e =
    let told = refusal_parts place MOST_TEXT_BYTES c cause.Long (sym (err_same (refusal MOST_TEXT_BYTES cause.Long) (record { place = place; cause = c }) e)) in
    inl (ltb-true MOST_TEXT_BYTES (length text) long, told.0, told.1)
refused_by_length false text place c short e =
    let s = lines_stop [] (kept_lines text) (record { place = place; cause = c }) none_few e in
    let told = refusal_parts place s.number c s.why s.told in
    inr (
      ltb-false MOST_TEXT_BYTES (length text) short,
      (
        s.why,
        told.1,
        record {
          front = s.front;
          words = s.words;
          back = s.back;
          commands = s.commands;
          parts = s.parts ∙ ap (λ (n : ℕ). s.front ++ (n, s.words) ∷ s.back) (sym told.0);
          spelled = s.spelled;
          few = s.few;
          refused = s.refused;
        },
      ),
    )

pub refused_is_faulty : (text : List ℕ) (place c : ℕ) → script_of text ≡ Err (record { place = place; cause = c }) → IsFaulty text place c
refused_is_faulty text place c e = refused_by_length (ltb MOST_TEXT_BYTES (length text)) text place c refl e

first_refused : (lines : List (ℕ × List (List ℕ))) (number : ℕ) (why : Cause) → IsFirstRefused lines number why → commands_after [] lines ≡ Err (refusal number why)
first_refused lines number why s =
    let stop : commands_after s.commands ((number, s.words) ∷ s.back) ≡ Err (refusal number why) = rw s.refused refl in
    ap (commands_after []) s.parts ∙ (spelled_read [] s.front ((number, s.words) ∷ s.back) s.commands s.spelled s.few ∙ stop)

pub faulty_is_refused : (text : List ℕ) (place c : ℕ) → IsFaulty text place c → script_of text ≡ Err (record { place = place; cause = c })
faulty_is_refused text place c (inl long) = rw (lt-ltb MOST_TEXT_BYTES (length text) long.0, long.1, long.2) refl
faulty_is_refused text place c (inr short) =
    rw (le-ltb MOST_TEXT_BYTES (length text) short.0, short.1.1) (first_refused (kept_lines text) place short.1.0 short.1.2)
