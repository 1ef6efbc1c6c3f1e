-- Reading lines one after another and the plain grammar agree.
use Rattle.std.proofs.Common.{◌≡◌, ℕ, ◌+◌, ◌<◌, ◌≤◌, ◌^◌, inl, inr, Bool, true, false, cond, ltb, List, [], ◌∷◌, ◌++◌, length, map, Result, Ok, Err, IfOk, refl, sym, ap, subst, ◌∙◌, arith, append_assoc, length-append}
use Rattle.std.specs.List.{All}
use Rattle.std.proofs.lemmas.Bool.{ltb-true, ltb-false, le-ltb, lt-ltb}
use Rattle.std.proofs.lemmas.List.{append-nil}
use Rattle.std.proofs.lemmas.List.Elements.{All-nil, All-head, All-tail, All-push}
use Rattle.line_text.specs.declared.cause.Cause.{Cause}
use Rattle.line_text.specs.declared.cause.Cause.TheVariants as cause
use Rattle.line_text.specs.Laws.{EachNumberHasOneSpelling}
use Rattle.line_text.specs.Lines.{kept_lines}
use Rattle.line_text.specs.Refusals.{◌>>=◌, Refusal, refusal, cause_number}
use Rattle.line_text.specs.declared.limits.TheConstants.{MOST_TEXT_BYTES}
use Rattle.request_text.specs.declared.limits.TheConstants.{MOST_REQUESTS}
use Rattle.request_text.specs.declared.request.Request.{Request}
use Rattle.request_text.specs.declared.fault.RequestFault.{RequestFault}
use Rattle.request_text.specs.Requests.{IsRequest, AreRequests, request_of, next_request, at_line, requests_after, requests_of, Answers}
use Rattle.request_text.specs.Grammar.{Lines, spelling, Spell, IsSpelled, IsFirstRefused, IsFaulty}
use Rattle.request_text.proofs.Numbers.{request_lawful, request_spelled, spelling_read, next_parts, next_read}

-- ---- lawful requests, one by one

pub none_lawful : (clients : ℕ) → AreRequests clients []
none_lawful clients = record { few = omega arith; each = All-nil (IsRequest clients) }

one_more : (clients : ℕ) (before : List Request) (r : Request) → AreRequests clients before → IsRequest clients r → length before < MOST_REQUESTS → AreRequests clients (before ++ r ∷ [])
one_more clients before r lawful new few = record {
  few = omega (arith, length-append before (r ∷ []), few);
  each = All-push (IsRequest clients) before r lawful.each new;
}

ok_same : (x y : List Request) → ◌≡◌ {A = Result (List Request) Refusal} (Ok x) (Ok y) → x ≡ y
ok_same x y e = cc

err_same : (x y : Refusal) → ◌≡◌ {A = Result (List Request) Refusal} (Err x) (Err y) → x ≡ y
err_same x y e = cc

-- ---- what is read is lawful

line_lawful : (clients : ℕ) (before : List Request) (line : ℕ × List (List ℕ)) (lines : Lines) (all : List Request) (next : Result Request Cause) → next_request clients (length before) line.1 ≡ next → AreRequests clients before
    → ((r : Request) → AreRequests clients (before ++ r ∷ []) → requests_after clients (before ++ r ∷ []) lines ≡ Ok all → AreRequests clients all)
    → (at_line line.0 next >>= λ r. requests_after clients (before ++ r ∷ []) lines) ≡ Ok all → AreRequests clients all
line_lawful clients before line lines all (Err why) is lawful more e = absurd cc
line_lawful clients before line lines all (Ok r) is lawful more e =
    let parts = next_parts clients (length before) line.1 r is in
    more r (one_more clients before r lawful (request_lawful clients line.1 r parts.0) parts.1) e

pub lines_lawful : (clients : ℕ) (before : List Request) (lines : Lines) (all : List Request) → AreRequests clients before → requests_after clients before lines ≡ Ok all → AreRequests clients all
lines_lawful clients before [] all lawful e = subst (AreRequests clients) (ok_same before all e) lawful
lines_lawful clients before (line ∷ lines) all lawful e =
    line_lawful clients before line lines all (next_request clients (length before) line.1) refl lawful (λ r. lines_lawful clients (before ++ r ∷ []) lines all) e

-- what is answered is lawful
pub answer_lawful : (clients : ℕ) (lines : Lines) (answer : Result (List Request) RequestFault) → Answers answer (requests_after clients [] lines) → IfOk answer (λ requests. AreRequests clients requests)
answer_lawful clients lines (Ok requests) e = lines_lawful clients [] lines requests (none_lawful clients) e
answer_lawful clients lines (Err fault) e = tt

-- ---- from lines to requests

-- the requests of lines, behind others
record AreRead (clients : ℕ) (before : List Request) (lines : Lines) (all : List Request) : Type 0 where
  requests : List Request
  parts : all ≡ before ++ requests
  spelled : Spell lines requests

line_read : EachNumberHasOneSpelling → (clients : ℕ) (before : List Request) (line : ℕ × List (List ℕ)) (lines : Lines) (all : List Request) (next : Result Request Cause) → next_request clients (length before) line.1 ≡ next
    → ((r : Request) → requests_after clients (before ++ r ∷ []) lines ≡ Ok all → AreRead clients (before ++ r ∷ []) lines all)
    → (at_line line.0 next >>= λ r. requests_after clients (before ++ r ∷ []) lines) ≡ Ok all → AreRead clients before (line ∷ lines) all
line_read spell clients before line lines all (Err why) is more e = absurd cc
line_read spell clients before line lines all (Ok r) is more e =
    let parts = next_parts clients (length before) line.1 r is in
    let rest = more r e in
    let words : line.1 ≡ spelling r = request_spelled spell clients line.1 r parts.0 in
    record {
      requests = r ∷ rest.requests;
      parts = rest.parts ∙ append_assoc before (r ∷ []) rest.requests;
      spelled = ap (λ (w : List (List ℕ)). w ∷ map (λ (l : ℕ × List (List ℕ)). l.1) lines) words
          ∙ ap (λ (ws : List (List (List ℕ))). spelling r ∷ ws) rest.spelled;
    }

lines_read : EachNumberHasOneSpelling → (clients : ℕ) (before : List Request) (lines : Lines) (all : List Request) → requests_after clients before lines ≡ Ok all → AreRead clients before lines all
lines_read spell clients before [] all e =
    record { requests = []; parts = sym (ok_same before all e) ∙ sym (append-nil before); spelled = refl }
lines_read spell clients before (line ∷ lines) all e =
    line_read spell clients before line lines all (next_request clients (length before) line.1) refl (λ r. lines_read spell clients (before ++ r ∷ []) lines all) e

-- the first line that is refused, behind others
record IsStopped (clients : ℕ) (before : List Request) (lines : Lines) (told : Refusal) : Type 0 where
  front : Lines
  number : ℕ
  words : List (List ℕ)
  back : Lines
  requests : List Request
  why : Cause
  parts : lines ≡ front ++ (number, words) ∷ back
  spelled : Spell front requests
  lawful : AreRequests clients (before ++ requests)
  refused : next_request clients (length (before ++ requests)) words ≡ Err why
  is : told ≡ refusal number why

line_stops : EachNumberHasOneSpelling → (clients : ℕ) (before : List Request) (line : ℕ × List (List ℕ)) (lines : Lines) (told : Refusal) (next : Result Request Cause) → next_request clients (length before) line.1 ≡ next → AreRequests clients before
    → ((r : Request) → AreRequests clients (before ++ r ∷ []) → requests_after clients (before ++ r ∷ []) lines ≡ Err told → IsStopped clients (before ++ r ∷ []) lines told)
    → (at_line line.0 next >>= λ r. requests_after clients (before ++ r ∷ []) lines) ≡ Err told → IsStopped clients before (line ∷ lines) told
line_stops spell clients before line lines told (Err why) is lawful more e =
    let none : before ++ [] ≡ before = append-nil before in
    record {
      front = [];
      number = line.0;
      words = line.1;
      back = lines;
      requests = [];
      why = why;
      parts = refl;
      spelled = refl;
      lawful = subst (AreRequests clients) (sym none) lawful;
      refused = ap (λ (rs : List Request). next_request clients (length rs) line.1) none ∙ is;
      is = sym (err_same (refusal line.0 why) told e);
    }
line_stops spell clients before line lines told (Ok r) is lawful more e =
    let parts = next_parts clients (length before) line.1 r is in
    let rest = more r (one_more clients before r lawful (request_lawful clients line.1 r parts.0) parts.1) e in
    let words : line.1 ≡ spelling r = request_spelled spell clients line.1 r parts.0 in
    let grouped : (before ++ r ∷ []) ++ rest.requests ≡ before ++ r ∷ rest.requests = append_assoc before (r ∷ []) rest.requests in
    record {
      front = line ∷ rest.front;
      number = rest.number;
      words = rest.words;
      back = rest.back;
      requests = r ∷ rest.requests;
      why = rest.why;
      parts = ap (λ (ls : Lines). line ∷ ls) rest.parts;
      spelled = ap (λ (w : List (List ℕ)). w ∷ map (λ (l : ℕ × List (List ℕ)). l.1) rest.front) words
          ∙ ap (λ (ws : List (List (List ℕ))). spelling r ∷ ws) rest.spelled;
      lawful = subst (AreRequests clients) grouped rest.lawful;
      refused = subst (λ (rs : List Request). next_request clients (length rs) rest.words ≡ Err rest.why) grouped rest.refused;
      is = rest.is;
    }

lines_stop : EachNumberHasOneSpelling → (clients : ℕ) (before : List Request) (lines : Lines) (told : Refusal) → AreRequests clients before → requests_after clients before lines ≡ Err told → IsStopped clients before lines told
lines_stop spell clients before [] told lawful e = absurd cc
lines_stop spell clients before (line ∷ lines) told lawful e =
    line_stops spell clients before line lines told (next_request clients (length before) line.1) refl lawful (λ r. lines_stop spell clients (before ++ r ∷ []) lines told) e

-- ---- from requests to lines

cons_same : (x y : List (List ℕ)) (xs ys : List (List (List ℕ))) → x ∷ xs ≡ y ∷ ys → (x ≡ y) × (xs ≡ ys)
cons_same x y xs ys e = (cc, cc)

spelled_read : EachNumberHasOneSpelling → (clients : ℕ) (before : List Request) (lines behind : Lines) (requests : List Request) → clients < 2 ^ 32 → Spell lines requests → All (IsRequest clients) requests → length before + length requests ≤ MOST_REQUESTS
    → requests_after clients before (lines ++ behind) ≡ requests_after clients (before ++ requests) behind
spelled_read spell clients before [] behind [] low s each few = ap (λ (rs : List Request). requests_after clients rs behind) (sym (append-nil before))
spelled_read spell clients before [] behind (r ∷ requests) low s each few = absurd cc
spelled_read spell clients before (line ∷ lines) behind [] low s each few = absurd cc
spelled_read spell clients before (line ∷ lines) behind (r ∷ requests) low s each few =
    let same = cons_same line.1 (spelling r) (map (λ (l : ℕ × List (List ℕ)). l.1) lines) (map spelling requests) s in
    let request : request_of clients line.1 ≡ Ok r
    = ap (request_of clients) same.0 ∙ spelling_read spell clients r low (All-head (IsRequest clients) r requests each) in
    let next : next_request clients (length before) line.1 ≡ Ok r = next_read clients (length before) line.1 r request (omega (arith, few)) in
    let grouped : (before ++ r ∷ []) ++ requests ≡ before ++ r ∷ requests = append_assoc before (r ∷ []) requests in
    let first : requests_after clients before (line ∷ (lines ++ behind)) ≡ requests_after clients (before ++ r ∷ []) (lines ++ behind) = rw next refl in
    first
    ∙ (spelled_read spell clients (before ++ r ∷ []) lines behind requests low same.1 (All-tail (IsRequest clients) r requests each) (omega (arith, few, length-append before (r ∷ [])))
    ∙ ap (λ (rs : List Request). requests_after clients rs behind) grouped)

-- ---- whole texts

is_short : (t : Bool) (r : Result (List Request) Refusal) (all : List Request) → cond t (Err (refusal MOST_TEXT_BYTES cause.Long)) r ≡ Ok all → (t ≡ false) × (r ≡ Ok all)
is_short true r all e = absurd cc
is_short false r all e = (refl, e)

pub text_lawful : (clients : ℕ) (text : List ℕ) (requests : List Request) → requests_of clients text ≡ Ok requests → AreRequests clients requests
text_lawful clients text requests e =
    let short = is_short (ltb MOST_TEXT_BYTES (length text)) (requests_after clients [] (kept_lines text)) requests e in
    lines_lawful clients [] (kept_lines text) requests (none_lawful clients) short.1

pub read_is_spelled : EachNumberHasOneSpelling → (clients : ℕ) (text : List ℕ) (requests : List Request) → requests_of clients text ≡ Ok requests → IsSpelled clients text requests
read_is_spelled spell clients text requests e =
    let short = is_short (ltb MOST_TEXT_BYTES (length text)) (requests_after clients [] (kept_lines text)) requests e in
    let read = lines_read spell clients [] (kept_lines text) requests short.1 in
    record {
      short = ltb-false MOST_TEXT_BYTES (length text) short.0;
      lines = subst (Spell (kept_lines text)) (sym read.parts) read.spelled;
      lawful = text_lawful clients text requests e;
    }

pub spelled_is_read : EachNumberHasOneSpelling → (clients : ℕ) (text : List ℕ) (requests : List Request) → clients < 2 ^ 32 → IsSpelled clients text requests → requests_of clients text ≡ Ok requests
spelled_is_read spell clients text requests low s =
    rw (le-ltb MOST_TEXT_BYTES (length text) s.short)
    (ap (requests_after clients []) (sym (append-nil (kept_lines text)))
    ∙ spelled_read spell clients [] (kept_lines text) [] requests low s.lines s.lawful.each (omega (arith, s.lawful.few)))

refusal_parts : (place number c : ℕ) (why : Cause) → ◌≡◌ {A = Refusal} (record { place = place; cause = c }) (refusal number why) → (place ≡ number) × (c ≡ cause_number why)
refusal_parts place number c why e = (ap (λ (r : Refusal). r.place) e, ap (λ (r : Refusal). r.cause) e)

refused_by_length : EachNumberHasOneSpelling → (clients : ℕ) (t : Bool) (text : List ℕ) (place c : ℕ) → ltb MOST_TEXT_BYTES (length text) ≡ t → cond t (Err (refusal MOST_TEXT_BYTES cause.Long)) (requests_after clients [] (kept_lines text)) ≡ Err (record { place = place; cause = c }) → IsFaulty clients text place c
refused_by_length spell clients true text place c long e =
    let told = refusal_parts place MOST_TEXT_BYTES c cause.Long (sym (err_same (refusal MOST_TEXT_BYTES cause.Long) (record { place = place; cause = c }) e)) in
    inl (ltb-true MOST_TEXT_BYTES (length text) long, told.0, told.1)
refused_by_length spell clients false text place c short e =
    let s = lines_stop spell clients [] (kept_lines text) (record { place = place; cause = c }) (none_lawful clients) e in
    let told = refusal_parts place s.number c s.why s.is in
    inr (
      ltb-false MOST_TEXT_BYTES (length text) short,
      (
        s.why,
        told.1,
        record {
          front = s.front;
          words = s.words;
          back = s.back;
          requests = s.requests;
          parts = s.parts ∙ ap (λ (n : ℕ). s.front ++ (n, s.words) ∷ s.back) (sym told.0);
          spelled = s.spelled;
          lawful = s.lawful;
          refused = s.refused;
        },
      ),
    )

pub refused_is_faulty : EachNumberHasOneSpelling → (clients : ℕ) (text : List ℕ) (place c : ℕ) → requests_of clients text ≡ Err (record { place = place; cause = c }) → IsFaulty clients text place c
refused_is_faulty spell clients text place c e = refused_by_length spell clients (ltb MOST_TEXT_BYTES (length text)) text place c refl e

first_refused : EachNumberHasOneSpelling → (clients : ℕ) (lines : Lines) (number : ℕ) (why : Cause) → clients < 2 ^ 32 → IsFirstRefused clients lines number why → requests_after clients [] lines ≡ Err (refusal number why)
first_refused spell clients lines number why low s =
    let stop : requests_after clients s.requests ((number, s.words) ∷ s.back) ≡ Err (refusal number why) = rw s.refused refl in
    ap (requests_after clients []) s.parts
    ∙ (spelled_read spell clients [] s.front ((number, s.words) ∷ s.back) s.requests low s.spelled s.lawful.each (omega (arith, s.lawful.few)) ∙ stop)

pub faulty_is_refused : EachNumberHasOneSpelling → (clients : ℕ) (text : List ℕ) (place c : ℕ) → clients < 2 ^ 32 → IsFaulty clients text place c → requests_of clients text ≡ Err (record { place = place; cause = c })
faulty_is_refused spell clients text place c low (inl long) = rw (lt-ltb MOST_TEXT_BYTES (length text) long.0, long.1, long.2) refl
faulty_is_refused spell clients text place c low (inr short) =
    rw (le-ltb MOST_TEXT_BYTES (length text) short.0, short.1.1) (first_refused spell clients (kept_lines text) place short.1.0 low short.1.2)
