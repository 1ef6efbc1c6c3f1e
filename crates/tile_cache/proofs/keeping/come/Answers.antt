use Rattle.std.proofs.Common.{◌≡◌, ◌||◌, sym, ap, ◌∙◌, refl, inr, arith}
use Rattle.std.proofs.lemmas.Option.{same_Some}
use Rattle.units.specs.Sizes.{pages_for}
use Rattle.tile_cache.proofs.EntriesStay.{all_stay}
use Rattle.tile_cache.proofs.ClientSteps.{name_on, name_allocated, unmoved_freed}
use Rattle.tile_cache.proofs.CacheSteps.{wanted_is}
use Rattle.tile_cache.proofs.Came.{name_none, none_came, gone_stays, stay_freed, put_front, or_cond}
use Rattle.tile_cache.specs.Recent.{is_same}
use Rattle.tile_cache.proofs.keeping.come.Goals as goal

pub returns-in_default-clause-none : goal.returns-in_default-clause-none
returns-in_default-clause-none g c = record {
  entries = refl;
  none = none_came c.args.now c.args.size c.in_default.field-0 c.args.granted.now c.allocate.new.self c.in_default.ensures.large c.in_default.ensures.out;
  stay = all_stay c.args.granted.now.client c.allocate.new.self.client c.args.entries.now.entries c.allocate.ensures.stay c.requires.owned.owned;
  gone = gone_stays c.args.granted.now.client c.allocate.new.self.client c.allocate.ensures.gone;
  name = name_none c.args.size c.in_default.field-0 c.args.granted.now c.allocate.new.self c.in_default.ensures.large c.in_default.ensures.out;
  fits = omega (arith, c.in_default.ensures.no_more);
  start = c.allocate.ensures.start;
  shown = λ other. c.in_ok-reserve.ensures.keys.2 other;
}

pub returns-in-Err-clause-none : goal.returns-in-Err-clause-none
returns-in-Err-clause-none g c =
    let ok = c.in-Ok.ensures.ok in
    let is : c.in-Err.failed.value.1 ≡ c.in-Ok.piece = ap (λ p. p.1) c.in-Err.ensures.value_returned in
    let frees = rw is at c.free.ensures.frees in
    let counted = c.in-Ok.ensures.grants in
    let sized = c.in-Ok.ensures.size in
    let wants : sized.0 ≡ pages_for c.args.size = (wanted_is c.args.size sized.0 sized.1).0 in
    let unmoved = unmoved_freed c.free.result c.in-Ok.piece c.args.now c.allocate.new.self.client c.free.new.self.client frees in
    let gone = gone_stays c.args.granted.now.client c.allocate.new.self.client c.allocate.ensures.gone in
    record {
      entries = ap (λ l. l.entries) c.in-Err.ensures.err;
      none = inr (inr (record {
        piece = c.in-Ok.piece;
        pages = ok.0;
        wants = ok.1;
        allocated = c.allocate.new.self;
        counted = rw (same_Some _ _ (sym counted.1 ∙ ok.1)) at counted.2;
        freed = (c.free.result, frees);
        same = c.free.ensures.same;
      }));
      stay = stay_freed c.free.result ok.0 c.args.now c.in-Ok.piece c.args.granted.now.client c.allocate.new.self.client c.free.new.self.client c.args.entries.now.entries c.requires.owned (wanted_is c.args.size ok.0 ok.1).1 ok.3 c.allocate.ensures.stay frees (rw is at c.free.ensures.stay);
      gone = λ id was. rw unmoved.gone (gone id was);
      name = name_on c.args.granted.now.client c.allocate.new.self.client c.free.new.self.client (name_allocated ok.0 c.in-Ok.piece c.args.granted.now.client c.allocate.new.self.client ok.2) unmoved.goes.name;
      fits = omega (arith, unmoved.goes.pages, rw wants at sized.2);
      start = ap (λ s. s.start) c.free.ensures.same ∙ c.allocate.ensures.start;
      shown = λ other. c.in_ok-reserve.ensures.keys.2 other;
    }

pub returns-clause-comes : goal.returns-clause-comes
returns-clause-comes g c =
    let ok = c.in-Ok.ensures.ok in
    let counted = c.in-Ok.ensures.grants in
    let sized = c.in-Ok.ensures.size in
    let one : counted.0 ≡ ok.0 = same_Some _ _ (sym counted.1 ∙ ok.1) in
    let two : sized.0 ≡ ok.0 = same_Some _ _ (sym sized.1 ∙ ok.1) in
    record {
      piece = c.in-Ok.piece;
      pages = ok.0;
      wants = ok.1;
      entries = ap (λ l. l.entries) c.in_default-put.ensures.entries ∙ put_front c.args.entries.now c.args.tile c.in-Ok.piece c.requires.absent c.requires.room;
      fresh = ok.3;
      counted = rw one at counted.2;
      stay = c.allocate.ensures.stay;
      gone = gone_stays c.args.granted.now.client c.allocate.new.self.client c.allocate.ensures.gone;
      fits = rw two at sized.2;
      start = c.allocate.ensures.start;
      shown = λ other. c.in-Ok-insert.ensures.updates.0 other ∙ (or_cond (is_same c.args.tile other) _ ∙ ap (λ b. is_same c.args.tile other || b) (c.in_ok-reserve.ensures.keys.2 other));
    }
