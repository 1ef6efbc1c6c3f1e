-- A run stands for the next state after each event.
use Rattle.std.proofs.Common.{◌≡◌, ◌≢◌, ℕ, ◌+◌, ◌≤◌, true, false, List, [], ◌∷◌, ◌++◌, length, refl, sym, ap, ◌∙◌, subst, arith}
use Rattle.std.proofs.lemmas.Bool.{false≢true}
use Rattle.std.proofs.lemmas.Bool.Decides.{nat_tests}
use Rattle.std.proofs.lemmas.List.{append-nil}
use Rattle.units.specs.declared.TheConstants.{MOST_PAGES}
use Rattle.machine.specs.declared.event.Event.{Event}
use Rattle.machine.specs.declared.event.Event.TheVariants.{Grant, Lock, Unlock, Write, Try, Back}
use Rattle.machine.specs.declared.event.Answer.{Answer}
use Rattle.machine.specs.declared.event.Answer.TheVariants.{Granted, Taken, Used, Counted, Purged}
use Rattle.machine.specs.History.{is_begun}
use Rattle.machine.specs.Answers.{answer, answered}
use Rattle.machine.specs.Segments.{StandsFor}
use Rattle.machine.specs.Reduction.{is_owners}
use Rattle.machine.proofs.Sound.{sound}
use Rattle.machine.proofs.Whole.{granted}
use Rattle.discard_book.specs.declared.entry.Entry.{Entry}
use Rattle.discard_book.specs.declared.entry.Entry.TheVariants as entry
use Rattle.script_heaps.specs.Showing.{Shows}
use Rattle.replay_plain.specs.declared.run.PlainRun.{PlainRun}
use Rattle.replay_plain.specs.Rows.{KnownView}
use Rattle.replay_plain.specs.State.{ReplayState, entries_by, entries_of, after_event, is_grant, grants_of, next_grant}
use Rattle.replay_plain.specs.Known.{TellsAll, is_drawn}
use Rattle.replay_plain.specs.Run.{RunStandsFor}
use Rattle.replay_plain.proofs.Effects.{is_quiet}
use Rattle.replay_plain.proofs.Following.{all_quiet}

-- the limit, the standard size and the heaps are as before
pub record Stays (old new : PlainRun) : Type 0 where
  pub limit : new.limit ≡ old.limit
  pub standard : new.standard ≡ old.standard
  pub heaps : new.heaps ≡ old.heaps

-- the next state: the segments, what is kept of them and the entries followed one event more
pub stands_next : (state : ReplayState) (e : Event) (old new : PlainRun) (more : List Entry)
    → StandsFor new.segments (state.events ++ e ∷ []) → TellsAll (state.events ++ e ∷ []) new.known
    → new.entries.items ≡ old.entries.items ++ more → more ≡ entries_of state.limit state.events e → Stays old new
    → RunStandsFor old state → RunStandsFor new (after_event state e)
stands_next state e old new more segments known entries is stays w =
    record {
      segments = segments;
      known = known;
      entries = entries ∙ ap (λ xs. xs ++ more) w.entries ∙ ap (λ xs. state.entries ++ xs) is;
      limit = stays.limit ∙ w.limit;
      standard = stays.standard ∙ w.standard;
      heaps = subst (λ kept. Shows kept state.heaps) (sym stays.heaps) w.heaps;
    }

quiet_entries : (limit : ℕ) (events : List Event) (e : Event) (a : Answer) → is_quiet e a ≡ true → entries_by limit events e a ≡ []
unfolding is_quiet
quiet_entries limit events (Grant id client pages) (Granted drawn) q = absurd (false≢true q)
quiet_entries limit events (Try id now) Taken q = absurd (false≢true q)
quiet_entries limit events (Try id now) (Used known) q = absurd (false≢true q)
quiet_entries limit events (Back id) Counted q = absurd (false≢true q)
quiet_entries limit events (Back id) Purged q = absurd (false≢true q)
quiet_entries limit events _ _ q = refl

-- an event whose answer changes nothing that is kept
pub stands_quiet : (state : ReplayState) (e : Event) (a : Answer) (old new : PlainRun) → is_grant e ≡ false → is_quiet e a ≡ true → a ≡ answer state.events e
    → StandsFor new.segments (state.events ++ e ∷ []) → new.known ≡ old.known → new.entries.items ≡ old.entries.items → Stays old new
    → RunStandsFor old state → RunStandsFor new (after_event state e)
stands_quiet state e a old new no_grant q is segments known entries stays w =
    stands_next state e old new [] segments
    (all_quiet state.events e a new.known no_grant (sym is) q (subst (TellsAll state.events) (sym known) w.known))
    (entries ∙ sym (append-nil old.entries.items))
    (sym (quiet_entries state.limit state.events e a q) ∙ ap (entries_by state.limit state.events e) is) stays w

pub owners_quiet : (e : Event) (a : Answer) → is_owners e ≡ true → (is_grant e ≡ false) × (is_quiet e a ≡ true)
unfolding is_quiet
owners_quiet (Grant id client pages) a own = absurd (false≢true own)
owners_quiet (Try id now) a own = absurd (false≢true own)
owners_quiet (Back id) a own = absurd (false≢true own)
owners_quiet (Lock id first count) a own = (refl, refl)
owners_quiet (Unlock id first count at) a own = (refl, refl)
owners_quiet (Write id place bytes) a own = (refl, refl)

-- a try that is neither taken nor told to be used
pub try_quiet : (id now : ℕ) (a : Answer) → a ≢ Taken → ((known : ℕ) → a ≢ Used known) → is_quiet (Try id now) a ≡ true
unfolding is_quiet
try_quiet id now Taken no_taken no_used = absurd (no_taken refl)
try_quiet id now (Used known) no_taken no_used = absurd (no_used known refl)
try_quiet id now _ no_taken no_used = refl

-- a return that neither counts off nor finds the segment purged
pub back_quiet : (id : ℕ) (a : Answer) → a ≢ Counted → a ≢ Purged → is_quiet (Back id) a ≡ true
unfolding is_quiet
back_quiet id Counted no_counted no_purged = absurd (no_counted refl)
back_quiet id Purged no_counted no_purged = absurd (no_purged refl)
back_quiet id _ no_counted no_purged = refl

-- the next number was not granted, so it is
pub draws : (state : ReplayState) (known : KnownView) (client pages : ℕ) → TellsAll state.events known → 1 ≤ client → 1 ≤ pages → pages ≤ MOST_PAGES
    → answer state.events (next_grant state client pages) ≡ Granted (grants_of state + 1)
draws state known client pages w some few most =
    sym (granted (answered state.events) (grants_of state + 1) client pages ((sound state.events (grants_of state + 1)).unknown not_begun) (omega arith) few most)
  where
    not_begun : is_begun (answered state.events) (grants_of state + 1) ≡ false
    not_begun =
        let drawn = w.drawn in
        let out : is_drawn (length known.items) (grants_of state + 1) ≡ false = grind (arith, nat_tests) in
        w.begun (grants_of state + 1) ∙ out

-- the next number is granted
pub stands_drawn : (state : ReplayState) (id client pages : ℕ) (old new : PlainRun) → id ≡ length old.known.items
    → 1 ≤ client → 1 ≤ pages → pages ≤ MOST_PAGES
    → ((events : List Event) → StandsFor old.segments events → StandsFor new.segments (events ++ Grant id client pages ∷ []))
    → ((events : List Event) (n : ℕ) → TellsAll events old.known → answer events (Grant n client pages) ≡ Granted n → n ≡ id
    → TellsAll (events ++ Grant n client pages ∷ []) new.known)
    → new.entries.items ≡ old.entries.items ++ entry.Grant id client pages old.limit ∷ [] → Stays old new
    → RunStandsFor old state → RunStandsFor new (after_event state (next_grant state client pages))
stands_drawn state id client pages old new number some few most segments known entries stays w =
    let next : id ≡ grants_of state + 1 = number ∙ w.known.drawn in
    let is = draws state old.known client pages w.known some few most in
    stands_next state (next_grant state client pages) old new (entry.Grant id client pages old.limit ∷ [])
    (subst (λ n. StandsFor new.segments (state.events ++ Grant n client pages ∷ [])) next (segments state.events w.segments))
    (known state.events (grants_of state + 1) w.known is (sym next))
    entries
    (ap (λ n. entry.Grant n client pages old.limit ∷ []) next ∙ ap (λ l. entry.Grant (grants_of state + 1) client pages l ∷ []) w.limit
    ∙ ap (entries_by state.limit state.events (next_grant state client pages)) (sym is))
    stays w
