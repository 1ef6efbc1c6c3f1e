use Rattle.std.proofs.Common.{◌≡◌, [], ◌∷◌, ◌++◌, refl, ap, arith, ◌∙◌}
use Rattle.free_lists.specs.Lists.{list_of}
use Rattle.free_lists.proofs.tests.places_stand_in_lists_by_class.Goals as goal

pub before-requires : goal.before-requires
before-requires g c =
    let is : list_of c.append-4.new.self 3 ≡ 0 ∷ 1 ∷ [] =
    c.append-4.ensures.list 3 ∙ (c.append-3.ensures.list 3 ∙ (c.append-2.ensures.list 3 ∙ ap (λ l. l ++ 1 ∷ []) (c.append.ensures.list 3 ∙ ap (λ l. l ++ 0 ∷ []) (c.in_ok-extend.ensures.more.list 3 ∙ c.in_ok-lists.ensures.lists 3)))) in
    (3, (1, rw is (omega arith), rw is refl))

pub before-requires-2 : goal.before-requires-2
before-requires-2 g c =
    let is : list_of c.append-4.new.self 3 ≡ 0 ∷ 1 ∷ [] =
    c.append-4.ensures.list 3 ∙ (c.append-3.ensures.list 3 ∙ (c.append-2.ensures.list 3 ∙ ap (λ l. l ++ 1 ∷ []) (c.append.ensures.list 3 ∙ ap (λ l. l ++ 0 ∷ []) (c.in_ok-extend.ensures.more.list 3 ∙ c.in_ok-lists.ensures.lists 3)))) in
    (3, (0, rw is (omega arith), rw is refl))

pub before-requires-3 : goal.before-requires-3
before-requires-3 g c =
    let is : list_of c.append-4.new.self 256 ≡ 2 ∷ 3 ∷ [] =
    c.append-4.ensures.list 256 ∙ ap (λ l. l ++ 3 ∷ []) (c.append-3.ensures.list 256 ∙ ap (λ l. l ++ 2 ∷ []) (c.append-2.ensures.list 256 ∙ (c.append.ensures.list 256 ∙ (c.in_ok-extend.ensures.more.list 256 ∙ c.in_ok-lists.ensures.lists 256)))) in
    (256, (1, rw is (omega arith), rw is refl))

pub remove-requires : goal.remove-requires
remove-requires g c =
    let is : list_of c.append-4.new.self 3 ≡ 0 ∷ 1 ∷ [] =
    c.append-4.ensures.list 3 ∙ (c.append-3.ensures.list 3 ∙ (c.append-2.ensures.list 3 ∙ ap (λ l. l ++ 1 ∷ []) (c.append.ensures.list 3 ∙ ap (λ l. l ++ 0 ∷ []) (c.in_ok-extend.ensures.more.list 3 ∙ c.in_ok-lists.ensures.lists 3)))) in
    (3, (1, rw is (omega arith), rw is refl))
