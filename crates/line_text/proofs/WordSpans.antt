-- Lines as spans of one list of words, which grows at its end.
use Rattle.std.proofs.Common.{◌≡◌, ℕ, ◌-◌, ◌≤◌, List, [], ◌∷◌, ◌++◌, length, take, drop, map, Bor, Some, refl, sym, ap, subst, ◌∙◌, arith, append_assoc, length-append, length-drop}
use Rattle.std.specs.List.{All, slice_get, slice_range}
use Rattle.std.specs.Option.{option_map}
use Rattle.std.proofs.lemmas.List.{map_push, drop-append-le, take-append-le, drop_at, take_all, take-map, drop-map}
use Rattle.std.proofs.lemmas.List.Elements.{All-head, All-tail, All-push}
use Rattle.std.proofs.lemmas.Option.{slice_get-map}
use Rattle.line_text.specs.declared.line.Span.{Span}
use Rattle.line_text.specs.Spans.{line_at, AreWithin}

-- the line at a place
pub line_found : (words : List (Bor (List ℕ))) (spans : List Span) (lines : List (ℕ × List (List ℕ))) (place : ℕ) (span : Span)
    → map (line_at (map (λ w. w.now) words)) spans ≡ lines → slice_get spans place ≡ Some span
    → Some (span.number, map (λ w. w.now) (slice_range words span.start span.end)) ≡ slice_get lines place
line_found words spans lines place span e found =
    let n = span.end - span.start in
    let all : List (List ℕ) = map (λ w. w.now) words in
    let part : map (λ w. w.now) (take n (drop span.start words)) ≡ take n (drop span.start all) =
    sym (take-map (λ (w : Bor (List ℕ)). w.now) n (drop span.start words)) ∙ ap (take n) (sym (drop-map (λ (w : Bor (List ℕ)). w.now) span.start words)) in
    let there : slice_get lines place ≡ Some (line_at all span) =
    ap (λ (ls : List (ℕ × List (List ℕ))). slice_get ls place) (sym e) ∙ (slice_get-map (line_at all) spans place ∙ ap (option_map (line_at all)) found) in
    ap (λ (ws : List (List ℕ)). Some (span.number, ws)) part ∙ sym there

-- a span of words keeps them where more words follow
span_kept : (words more : List (List ℕ)) (span : Span) → (span.start ≤ span.end) × (span.end ≤ length words) → line_at (words ++ more) span ≡ line_at words span
span_kept words more span within =
    let n = span.end - span.start in
    let len = length-drop span.start words in
    ap (λ (ws : List (List ℕ)). (span.number, ws)) (ap (take n) (drop-append-le span.start words more (omega arith)) ∙ take-append-le n (drop span.start words) more (omega arith))

spans_kept : (words more : List (List ℕ)) (spans : List Span) → AreWithin (length words) spans → map (line_at (words ++ more)) spans ≡ map (line_at words) spans
spans_kept words more [] within = refl
spans_kept words more (span ∷ spans) within =
    let P : Span → Type 0 = λ s. (s.start ≤ s.end) × (s.end ≤ length words) in
    ap (λ (l : ℕ × List (List ℕ)). l ∷ map (line_at (words ++ more)) spans) (span_kept words more span (All-head P span spans within))
    ∙ ap (λ (ls : List (ℕ × List (List ℕ))). line_at words span ∷ ls) (spans_kept words more spans (All-tail P span spans within))

-- the words at the end are a span of their own
new_span : (words more : List (List ℕ)) (number start end : ℕ) → start ≡ length words → end ≡ length (words ++ more) → line_at (words ++ more) (record { number = number; start = start; end = end }) ≡ (number, more)
new_span words more number start end e f =
    let len = length-append words more in
    ap (λ (ws : List (List ℕ)). (number, ws)) (ap (take (end - start)) (drop_at words more start (sym e)) ∙ take_all (end - start) more (omega arith))

-- one line more
pub line_added : (words more all_words : List (List ℕ)) (spans all_spans : List Span) (number start end n : ℕ)
    → AreWithin n spans → n ≡ length words → all_words ≡ words ++ more → all_spans ≡ spans ++ record { number = number; start = start; end = end } ∷ []
    → start ≡ length words → end ≡ length all_words
    → map (line_at all_words) all_spans ≡ map (line_at words) spans ++ (number, more) ∷ []
line_added words more all_words spans all_spans number start end n inside size e f starts ends =
    let within : AreWithin (length words) spans = subst (λ (k : ℕ). AreWithin k spans) size inside in
    let span : Span = record { number = number; start = start; end = end } in
    let before : List (ℕ × List (List ℕ)) = map (line_at words) spans in
    ap (λ (ws : List (List ℕ)). map (line_at ws) all_spans) e ∙ (ap (map (line_at (words ++ more))) f ∙ (map_push (line_at (words ++ more)) spans span
    ∙ (ap (λ (ls : List (ℕ × List (List ℕ))). ls ++ line_at (words ++ more) span ∷ []) (spans_kept words more spans within)
    ∙ ap (λ (l : ℕ × List (List ℕ)). before ++ l ∷ []) (new_span words more number start end starts (ends ∙ ap length e)))))

pub within_more : (n m : ℕ) (spans all_spans : List Span) (span : Span) → AreWithin n spans → all_spans ≡ spans ++ span ∷ [] → n ≤ m → span.start ≤ span.end → span.end ≤ m → AreWithin m all_spans
within_more n m spans all_spans span within e more order last =
    let P : Span → Type 0 = λ s. (s.start ≤ s.end) × (s.end ≤ m) in
    subst (All P) (sym e) (All-push P spans span (λ k d below. let one = within k d below in (one.0, omega (arith, one.1))) (order, last))

-- words behind others, the first of them apart
pub words_pushed : (old pushed new : List (Bor (List ℕ))) (first : Bor (List ℕ)) (more : List (List ℕ)) → pushed ≡ old ++ first ∷ [] → map (λ w. w.now) new ≡ map (λ w. w.now) pushed ++ more
    → map (λ w. w.now) new ≡ map (λ w. w.now) old ++ first.now ∷ more
words_pushed old pushed new first more e f =
    let now : List (Bor (List ℕ)) → List (List ℕ) = map (λ w. w.now) in
    f ∙ (ap (λ (ws : List (Bor (List ℕ))). now ws ++ more) e ∙ (ap (λ (ws : List (List ℕ)). ws ++ more) (map_push (λ (w : Bor (List ℕ)). w.now) old first) ∙ append_assoc (now old) (first.now ∷ []) more))
