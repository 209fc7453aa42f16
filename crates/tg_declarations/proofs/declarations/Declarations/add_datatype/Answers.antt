use Rattle.std.proofs.Common.{ap, ◌∙◌, sym, subst, arith, ◌<◌, ◌+◌, ◌++◌, [], ◌∷◌, length, map}
use Rattle.std.proofs.lemmas.List.{length-append}
use Rattle.tg_declarations.specs.Owners.{places_from, owners_from, all_numbers_from, numbers_from}
use Rattle.tg_declarations.specs.Inside.{datatypes}
use Rattle.tg_declarations.proofs.Finding.{owners_kept, numbers_kept}
use Rattle.tg_declarations.proofs.declarations.Declarations.add_datatype.Goals as goal

pub invariant_of-self-in_default : goal.invariant_of-self-in_default
invariant_of-self-in_default c = record {
  owners =
      c.in_ok-add_places.ensures.added
      ∙ ap (λ n. c.self.inside.owners.items ++ places_from n 0 c.len-count.result) (c.in_ok-number.ensures.next ∙ ap (λ n. n + 1) (c.len.ensures ∙ c.self.inside.datatypes.ok.0))
      ∙ ap (λ n. c.self.inside.owners.items ++ places_from (length c.self.inside.datatypes.items + 1) 0 n) c.len-count.ensures
      ∙ owners_kept c.self.inside.datatypes.items (record { def = c.args.def; numbers = c.in_ok-numbers.numbers }) c.self.inside.owners.items c.self.invariant.owners
      ∙ ap (λ l. owners_from 1 (datatypes l)) (sym c.in_default.ensures.items);
  numbers =
      ap (λ l. map (λ x. x.numbers) l) c.in_default.ensures.items
      ∙ numbers_kept c.self.inside.datatypes.items (record { def = c.args.def; numbers = c.in_ok-numbers.numbers }) c.self.inside.owners.items
      c.self.invariant.owners c.self.invariant.numbers
      (c.in_ok-numbers.ensures ∙ ap (λ n. numbers_from (n + 1) c.len-count.result) (c.len-before.ensures ∙ c.self.inside.owners.ok.0)
      ∙ ap (λ n. numbers_from (length c.self.inside.owners.items + 1) n) c.len-count.ensures)
      ∙ ap (λ l. all_numbers_from 1 (datatypes l)) (sym c.in_default.ensures.items);
  few_datatypes =
      let count = length-append c.self.inside.datatypes.items (record { def = c.args.def; numbers = c.in_ok-numbers.numbers } ∷ []) in
      subst (λ l. length l < 4294967296) (sym c.in_default.ensures.items)
      (omega (arith, count, c.in_ok-number.ensures.next, c.in_ok-number.ensures.fits, c.len.ensures, c.self.inside.datatypes.ok.0));
  few_functions = c.self.invariant.few_functions;
}
