-- The run stands for the state of the replay, command by command.
use Rattle.std.proofs.Common.{◌⊎◌, inl, inr, ◌≡◌, ◌≢◌, ℕ, ◌+◌, ◌≤◌, ◌==◌, nat_lt, Bool, true, false, not, cond, MatchBool, List, [], ◌∷◌, ◌++◌, length, filter, add-zero, refl, sym, ap, ◌∙◌, subst, arith}
use Rattle.std.proofs.lemmas.List.{append-nil}
use Rattle.std.proofs.lemmas.List.Sums.{sum_by_push}
use Rattle.std.proofs.lemmas.Bool.{false≢true}
use Rattle.units.specs.declared.TheConstants.{MOST_PAGES}
use Rattle.machine.specs.declared.event.Event.{Event}
use Rattle.machine.specs.declared.event.Event.TheVariants.{Grant, Lock, Unlock, Write}
use Rattle.machine.specs.declared.event.Answer.{Answer}
use Rattle.machine.specs.declared.event.Answer.TheVariants.{Granted, Gone}
use Rattle.machine.specs.History.{History, client_of}
use Rattle.machine.specs.Answers.{answered, answered_after, answer, answer_of, granted, granted_numbers}
use Rattle.machine.specs.Laws.{taken_off, added}
use Rattle.machine.proofs.Whole.{answered_push, granted as grant_answer}
use Rattle.machine.proofs.Counts.{counted_once}
use Rattle.segment.specs.Owned.{Owned}
use Rattle.discard_book.specs.declared.entry.Entry.{Entry}
use Rattle.discard_book.specs.declared.entry.Entry.TheVariants as entry
use Rattle.discard_book.specs.Live.{live, grants, pages_of, granted as granted_by_entries}
use Rattle.discard_book.specs.Legal.{room}
use Rattle.discard_book.proofs.Pushed.{live-push, grants-push}
use Rattle.lru_reduce.specs.declared.reduction.Reduced.{Reduced}
use Rattle.manager_state.specs.Managed.{Managed}
use Rattle.manager_state.specs.Calls.{Reduces, Grants, MakesRoom}
use Rattle.replay_plain.specs.declared.config.ReplayCfg.{ReplayCfg}
use Rattle.replay_plain.specs.State.{ReplayState, first_state, is_grant, grants_of, next_grant, after_event, entries_of, entries_by}
use Rattle.replay_plain.specs.Replies.{answer_text, grant_text}
use Rattle.replay_plain.specs.Commands.{after_grant}
use Rattle.replay_real.specs.declared.owners.Given.{Given}
use Rattle.replay_real.specs.declared.heaps.Heaps.{Heaps}
use Rattle.replay_real.specs.Emptiness.{AreEmpty}
use Rattle.replay_real.specs.Owners.{given_at, ShowsEach}
use Rattle.replay_real.specs.Standing.{StandsFor}
use Rattle.replay_real.proofs.TableSteps.{unknown_past}

-- what happened after one event more
pub more_answered : (events : List Event) (e : Event) → answered (events ++ e ∷ []) ≡ (e, answer events e) ∷ answered events
more_answered events e = answered_push [] events e

-- an event that grants nothing and adds nothing to the book: what it leaves alone
pub record IsPlain (state : ReplayState) (e : Event) : Type 0 where
  no_grant : is_grant e ≡ false
  no_entry : entries_of state.limit state.events e ≡ []
  none_off : taken_off (answered state.events) e (answer state.events e) ≡ 0
  none_added : added e (answer state.events e) ≡ 0
  clients : (id : ℕ) → client_of ((e, answer state.events e) ∷ answered state.events) id ≡ client_of (answered state.events) id

pub plain_unlock : (state : ReplayState) (s first count at : ℕ) → IsPlain state (Unlock s first count at)
unfolding client_of
plain_unlock state s first count at = record { no_grant = refl; no_entry = refl; none_off = refl; none_added = refl; clients = λ id. refl }

pub plain_lock : (state : ReplayState) (s first count : ℕ) → IsPlain state (Lock s first count)
unfolding client_of
plain_lock state s first count = record { no_grant = refl; no_entry = refl; none_off = refl; none_added = refl; clients = λ id. refl }

pub plain_write : (state : ReplayState) (s place : ℕ) (bytes : List ℕ) → IsPlain state (Write s place bytes)
unfolding client_of
plain_write state s place bytes = record { no_grant = refl; no_entry = refl; none_off = refl; none_added = refl; clients = λ id. refl }

-- how many Grants there were after one event more
grants_more : (state : ReplayState) (e : Event) → grants_of (after_event state e) ≡ grants_of state + cond (is_grant e) 1 0
grants_more state e = sum_by_push (λ x. cond (is_grant x) 1 0) state.events e

-- the run stands for the state after such an event, if its segments show it
pub stands_after : {heaps : Heaps} (manager : Managed) (old new : List Given) (state : ReplayState) (e : Event) → IsPlain state e → StandsFor manager old heaps state
    → ((h : History) → ShowsEach h old → ShowsEach ((e, answer_of h e) ∷ h) new)
    → ((id : ℕ) → (given_at new id).client ≡ (given_at old id).client) → length new ≡ length old
    → StandsFor manager new heaps (after_event state e)
stands_after manager old new state e plain w shows clients places =
    let same : state.entries ++ entries_of state.limit state.events e ≡ state.entries = ap (λ (xs : List Entry). state.entries ++ xs) plain.no_entry ∙ append-nil state.entries in
    let grants : grants_of (after_event state e) ≡ grants_of state = grants_more state e ∙ ap {B = ℕ} (λ b. grants_of state + cond b 1 0) plain.no_grant ∙ add-zero (grants_of state) in
    let sum = (counted_once state.events e).sum in
    let off = plain.none_off in let more = plain.none_added in
    let pages : granted (state.events ++ e ∷ []) ≡ granted state.events = omega arith in
    record {
      entries = w.entries ∙ sym same;
      limit = w.limit;
      drawn = ap grants_in same ∙ w.drawn ∙ sym grants;
      places = places ∙ w.places ∙ sym (ap (λ n. n + 1) grants);
      granted = ap granted_by_entries same ∙ w.granted ∙ sym pages;
      clients = λ id. clients id ∙ w.clients id ∙ sym (plain.clients id) ∙ sym (ap (λ (h : History). client_of h id) (more_answered state.events e));
      owners = subst (λ (h : History). ShowsEach h new) (sym (more_answered state.events e)) (shows (answered state.events) w.owners);
      none = w.none;
      empty = w.empty;
    }
  where
    grants_in : List Entry → ℕ
    grants_in entries = grants entries

-- nothing is taken out
kept_all : (segments : List (ℕ × ℕ)) → filter (λ (segment : ℕ × ℕ). not false) segments ≡ segments
kept_all [] = refl
kept_all (x ∷ segments) = ap (λ (rest : List (ℕ × ℕ)). x ∷ rest) (kept_all segments)

-- granted pages after a Grant entry
granted_more : (entries : List Entry) (id client pages limit : ℕ) → granted_by_entries (entries ++ entry.Grant id client pages limit ∷ []) ≡ granted_by_entries entries + pages
granted_more entries id client pages limit =
    ap pages_of (live-push entries (entry.Grant id client pages limit) ∙ ap (λ (segments : List (ℕ × ℕ)). segments ++ (id, pages) ∷ []) (kept_all (live entries)))
    ∙ sum_by_push (λ (segment : ℕ × ℕ). segment.1) (live entries) (id, pages)

-- no room had to be made
pub no_room : (pages now : ℕ) (old between : Managed) → nat_lt (room old.limit pages) (granted_by_entries old.entries) ≡ false → MakesRoom pages now old between → between ≡ old
no_room pages now old between enough made =
    subst (λ (b : Bool). MatchBool b ((told : Reduced) × Reduces (room old.limit pages) now told old between) (between ≡ old)) enough made

-- the client of each number after a Grant
client_more : (h : History) (id client pages drawn s : ℕ) → client_of ((Grant id client pages, Granted drawn) ∷ h) s ≡ cond (id == s) client (client_of h s)
unfolding client_of
client_more h id client pages drawn s = refl

-- what a grant with room found and left
pub record GrantsNext (state : ReplayState) (client pages : ℕ) (side : Owned) (old new : Managed) : Type 0 where
  number : side.id ≡ grants_of state + 1
  answered : Granted (grants_of state + 1) ≡ answer state.events (next_grant state client pages)
  entries : new.entries ≡ state.entries ++ entry.Grant (grants_of state + 1) client pages state.limit ∷ []
  limit : new.limit ≡ state.limit

pub grants_next : {heaps : Heaps} (state : ReplayState) (client pages now : ℕ) (side : Owned) (old new : Managed) (table : List Given) → StandsFor old table heaps state
    → 1 ≤ client → 1 ≤ pages → pages ≤ MOST_PAGES
    → nat_lt (room state.limit pages) (granted state.events) ≡ false → Grants client pages now side old new → GrantsNext state client pages side old new
grants_next state client pages now side old new table w some least most enough made =
    let enough_here : nat_lt (room old.limit pages) (granted_by_entries old.entries) ≡ false =
    ap (λ (limit : ℕ). nat_lt (room limit pages) (granted_by_entries old.entries)) w.limit
    ∙ ap (λ (n : ℕ). nat_lt (room state.limit pages) n) (ap granted_by_entries w.entries ∙ w.granted) ∙ enough in
    let same = no_room pages now old made.between enough_here made.room in
    let before : made.between.entries ≡ state.entries = ap (λ (m : Managed). m.entries) same ∙ w.entries in
    let limit : made.between.limit ≡ state.limit = ap (λ (m : Managed). m.limit) same ∙ w.limit in
    let number : side.id ≡ grants_of state + 1 = made.enters.number ∙ ap (λ (entries : List Entry). grants entries + 1) before ∙ ap (λ n. n + 1) w.drawn in
    let places = w.places in
    let unknown = unknown_past (answered state.events) table (grants_of state + 1) (omega arith) w.owners in
    record {
      number = number;
      answered = grant_answer (answered state.events) (grants_of state + 1) client pages unknown some least most;
      entries = made.enters.entries ∙ ap (λ (entries : List Entry). entries ++ entry.Grant side.id client pages made.between.limit ∷ []) before
          ∙ ap (λ (id : ℕ). state.entries ++ entry.Grant id client pages made.between.limit ∷ []) number
          ∙ ap (λ (l : ℕ). state.entries ++ entry.Grant (grants_of state + 1) client pages l ∷ []) limit;
      limit = made.enters.limit ∙ limit;
    }

-- the run stands for the state after a grant
pub stands_granted : {heaps : Heaps} (state : ReplayState) (client pages : ℕ) (side : Owned) (old new : Managed) (table left : List Given) → StandsFor old table heaps state
    → GrantsNext state client pages side old new
    → ((h : History) → ShowsEach h table → ShowsEach ((Grant (grants_of state + 1) client pages, Granted (grants_of state + 1)) ∷ h) left)
    → ((id : ℕ) → (given_at left id).client ≡ cond (length table == id) client (given_at table id).client) → length left ≡ length table + 1
    → StandsFor new left heaps (after_grant state client pages)
stands_granted state client pages side old new table left w next shows clients places =
    let id = grants_of state + 1 in
    let e = next_grant state client pages in
    let h = answered state.events in
    let entry_is : entries_of state.limit state.events e ≡ entry.Grant id client pages state.limit ∷ [] =
    ap (λ (a : Answer). entries_by state.limit state.events e a) (sym next.answered) in
    let whole : state.entries ++ entries_of state.limit state.events e ≡ state.entries ++ entry.Grant id client pages state.limit ∷ [] = ap (λ (xs : List Entry). state.entries ++ xs) entry_is in
    let history : answered (state.events ++ e ∷ []) ≡ (e, Granted id) ∷ h = more_answered state.events e ∙ ap (λ (a : Answer). (e, a) ∷ h) (sym next.answered) in
    let grants : grants_of (after_event state e) ≡ grants_of state + 1 = grants_more state e in
    let sum = (counted_once state.events e).sum in
    let off : taken_off h e (answer state.events e) ≡ 0 = ap (λ (a : Answer). taken_off h e a) (sym next.answered) in
    let more : added e (answer state.events e) ≡ pages = ap (λ (a : Answer). added e a) (sym next.answered) in
    let sum_is : granted (state.events ++ e ∷ []) ≡ granted state.events + pages = omega arith in
    record {
      entries = next.entries ∙ sym whole;
      limit = next.limit;
      drawn = ap (λ (entries : List Entry). grants_in entries) whole ∙ grants-push state.entries (entry.Grant id client pages state.limit) ∙ ap (λ n. n + 1) w.drawn ∙ sym grants;
      places = places ∙ ap (λ n. n + 1) w.places ∙ sym (ap (λ n. n + 1) grants);
      granted = ap granted_by_entries whole ∙ granted_more state.entries id client pages state.limit ∙ ap (λ n. n + pages) w.granted ∙ sym sum_is;
      clients = λ s. clients s ∙ ap (λ (n : ℕ). cond (n == s) client (given_at table s).client) w.places ∙ ap (λ (c : ℕ). cond (id == s) client c) (w.clients s)
          ∙ sym (client_more h id client pages id s) ∙ sym (ap (λ (g : History). client_of g s) history);
      owners = subst (λ (g : History). ShowsEach g left) (sym history) (shows h w.owners);
      none = w.none;
      empty = w.empty;
    }
  where
    grants_in : List Entry → ℕ
    grants_in entries = grants entries

-- the words of a grant
pub grant_words : (state : ReplayState) (client pages : ℕ) (side : Owned) (old new : Managed) → GrantsNext state client pages side old new
    → answer_text (Granted side.id) ≡ grant_text state client pages
grant_words state client pages side old new next =
    ap (λ (id : ℕ). answer_text (Granted id)) next.number ∙ ap answer_text next.answered

-- before the first command
pub stands_first : (cfg : ReplayCfg) (manager : Managed) (table : List Given) (heaps : Heaps) → manager.entries ≡ [] → manager.limit ≡ cfg.limit → ShowsEach [] table
    → ((id : ℕ) → (given_at table id).client ≡ 0) → length table ≡ 1 → AreEmpty heaps → StandsFor manager table heaps (first_state cfg)
unfolding answered_after client_of granted_numbers
stands_first cfg manager table heaps entries limit shows clients places empty =
    record {
      entries = entries;
      limit = limit;
      drawn = refl;
      places = places;
      granted = refl;
      clients = clients;
      owners = shows;
      none = refl;
      empty = empty;
    }

-- an answer is Gone, or it is another
abbrev is_gone_answer : Answer → Bool
is_gone_answer Gone = true
is_gone_answer other = false

pub gone_or_not : (a : Answer) → (a ≡ Gone) ⊎ (a ≢ Gone)
gone_or_not Gone = inl refl
gone_or_not a = inr (λ e. false≢true (ap is_gone_answer e))
