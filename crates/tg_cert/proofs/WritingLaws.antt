-- Certificates written one part behind another.
use Rattle.std.proofs.Common.{ℕ, zero, suc, ◌≡◌, ◌≢◌, ◌≤◌, ◌+◌, true, false, nat_eq, List, [], ◌∷◌, ◌++◌, map, length, take, drop, Some, refl, sym, ◌∙◌, ap, add-one, arith}
use Rattle.std.specs.Prelude.{slice_get, codes}
use Rattle.std.proofs.lemmas.Bool.Decides.{Decides-eqb}
use Rattle.std.proofs.lemmas.List.{drop_all}
use Rattle.tg_accept.proofs.Misnamed.{is_false}
use Rattle.tg_model.specs.Theory.{Theory, numbered}
use Rattle.tg_model.specs.Types as model
use Rattle.tg_calculus.specs.Book.{Line}
use Rattle.tg_grammar.specs.Kinds.{close_brace}
use Rattle.tg_grammar.specs.Seen.{Seen}
use Rattle.tg_render.specs.Render.{put, written, written_line, written_lines}
use Rattle.tg_render.specs.Tokens.{mark, numeral, continued, divided}
use Rattle.tg_render.proofs.Writing.{written-append, lines-append}
use Rattle.tg_report.specs.TypeTexts.{ty_tokens}
use Rattle.tg_report.specs.Words.{comma}
use Rattle.tg_term.proofs.PartLaws.{drop_at}
use Rattle.tg_tables.specs.Lists.{schema_list}
use Rattle.tg_tables.specs.Rows.{Entry}
use Rattle.tg_types.specs.declared.types.Ty.{Ty}
use Rattle.tg_types.specs.Types.{ty}
use Rattle.tg_cert.specs.CertificateTexts.{context_tokens, lines_from, line_tokens, numerals, name_in, row_name}

pub ruleset writing = (written-append, lines-append)

-- ---- what is left, and what is written

module _ {A : Type 0} (tokens : A → List Seen) (join : List A → List Seen) (step : (x : A) (xs : List A) → join (x ∷ xs) ≡ tokens x ++ join xs) where
  next_of : (out mid whole : List ℕ) (xs : List A) (i : ℕ) (x : A) → slice_get xs i ≡ Some x → written out (join (drop i xs)) ≡ whole
      → mid ≡ written out (tokens x) → written mid (join (drop (i + 1) xs)) ≡ whole
  next_of out mid whole xs i x at so_far first =
      ap (λ o. written o (join (drop (i + 1) xs))) first
      ∙ ap (λ k. written (written out (tokens x)) (join (drop k xs))) (add-one i)
      ∙ sym (written-append out (tokens x) (join (drop (suc i) xs)))
      ∙ ap (written out) (sym (step x (drop (suc i) xs)))
      ∙ ap (λ l. written out (join l)) (sym (drop_at xs i x at)) ∙ so_far

module _ (th : Theory) where
  abbrev pub others : List Ty → List Seen
  others ts = continued comma (map (ty_tokens th) (map ty ts))

  pub type_next : (out mid next whole : List ℕ) (ts : List Ty) (i : ℕ) (t : Ty) → slice_get ts i ≡ Some t → written out (others (drop i ts)) ≡ whole
      → mid ≡ put out (codes ",") → next ≡ written mid (ty_tokens th (ty t)) → written next (others (drop (i + 1) ts)) ≡ whole
  type_next out mid next whole ts i t at so_far a b =
      next_of (λ (x : Ty). comma ∷ ty_tokens th (ty x)) others (λ x xs. refl) out next whole ts i t at so_far
      (b ∙ ap (λ o. written o (ty_tokens th (ty t))) a)

  pub type_last : (out whole : List ℕ) (ts : List Ty) (i : ℕ) → length ts ≤ i → written out (others (drop i ts)) ≡ whole → out ≡ whole
  type_last out whole ts i h so_far = ap (λ l. written out (others l)) (sym (drop_all i ts h)) ∙ so_far

pub number_next : (out next whole : List ℕ) (ns : List ℕ) (i n : ℕ) → slice_get ns i ≡ Some n → written out (numerals (drop i ns)) ≡ whole
    → next ≡ written out (numeral n ∷ []) → written next (numerals (drop (i + 1) ns)) ≡ whole
number_next out next whole ns i n at so_far a = next_of (λ (k : ℕ). numeral k ∷ []) numerals (λ x xs. refl) out next whole ns i n at so_far a

pub number_last : (out whole : List ℕ) (ns : List ℕ) (i : ℕ) → length ns ≤ i → written out (numerals (drop i ns)) ≡ whole → out ≡ whole
number_last out whole ns i h so_far = ap (λ l. written out (numerals l)) (sym (drop_all i ns h)) ∙ so_far

pub ruleset types = (type_next, type_last)

-- ---- contexts

module _ (th : Theory) where
  pub none_written : (out : List ℕ) (ts : List Ty) → ts ≡ [] → out ≡ written out (divided comma (map (ty_tokens th) (map ty ts)))
  none_written out ts e = ap (λ l. written out (divided comma (map (ty_tokens th) (map ty l)))) (sym e)

  pub some_written : (out mid next : List ℕ) (ts us : List Ty) (t : Ty) → ts ≡ t ∷ us → mid ≡ written out (ty_tokens th (ty t))
      → next ≡ written mid (others th us) → next ≡ written out (divided comma (map (ty_tokens th) (map ty ts)))
  some_written out mid next ts us t e a b =
      b ∙ ap (λ o. written o (others th us)) a ∙ sym (written-append out (ty_tokens th (ty t)) (others th us))
      ∙ ap (λ l. written out (divided comma (map (ty_tokens th) (map ty l)))) (sym e)

  pub braced : (out first mid next : List ℕ) (ts : List Ty) (G : List model.Ty) → map ty ts ≡ G → first ≡ put out (codes "{")
      → mid ≡ written first (divided comma (map (ty_tokens th) (map ty ts))) → next ≡ put mid (codes "}") → next ≡ written out (context_tokens th G)
  braced out first mid next ts G same a b c =
      let inner = divided comma (map (ty_tokens th) (map ty ts)) in
      c ∙ ap (λ o. put o (codes "}")) (b ∙ ap (λ o. written o inner) a)
      ∙ sym (written-append (put out (codes "{")) inner (mark close_brace (codes "}") ∷ []))
      ∙ ap (λ H. written out (context_tokens th H)) same

pub ruleset contexts = (none_written, some_written, braced)

pub ruleset numbers = (number_next, number_last)

-- ---- lines

lines_more : (th : Theory) (n : ℕ) (ls : List Line) (i : ℕ) (l : Line) → slice_get ls i ≡ Some l
    → lines_from th n (take (suc i) ls) ≡ lines_from th n (take i ls) ++ line_tokens th (n + i) l ∷ []
lines_more th n [] i l e = cc e
lines_more th n (x ∷ ls) zero l e =
    let q : x ≡ l = cc e in
    let z : n ≡ n + 0 = omega arith in λ k. line_tokens th (z k) (q k) ∷ []
lines_more th n (x ∷ ls) (suc i) l e =
    let z : suc n + i ≡ n + suc i = omega arith in
    ap (λ r. line_tokens th n x ∷ r) (lines_more th (suc n) ls i l e ∙ ap (λ k. lines_from th (suc n) (take i ls) ++ line_tokens th k l ∷ []) z)

pub line_next : (th : Theory) (ls : List Line) (i m k : ℕ) (l : Line) (out old next : List ℕ) → numbered ls m ≡ Some l → m ≡ i + 1 → k ≡ i + 1
    → old ≡ written_lines out (lines_from th 1 (take i ls)) → next ≡ written_line old (line_tokens th k l)
    → next ≡ written_lines out (lines_from th 1 (take (i + 1) ls))
line_next th ls i m k l out old next at e f g h =
    let there : slice_get ls i ≡ Some l = ap (numbered ls) (sym (e ∙ add-one i)) ∙ at in
    let z : k ≡ 1 + i = omega (arith, f) in
    h ∙ (λ j. written_line (g j) (line_tokens th (z j) l))
    ∙ sym (lines-append out (lines_from th 1 (take i ls)) (line_tokens th (1 + i) l ∷ []))
    ∙ ap (written_lines out) (sym (lines_more th 1 ls i l there))
    ∙ ap (λ j. written_lines out (lines_from th 1 (take j ls))) (sym (add-one i))

pub ruleset lines = (line_next)

-- ---- the name of a row

this_code : (e : Entry) (es : List Entry) (k : ℕ) → nat_eq e.code k ≡ true → name_in (e ∷ es) k ≡ e.name
this_code e es k q = rw q refl

other_code : (e : Entry) (es : List Entry) (k : ℕ) → nat_eq e.code k ≡ false → name_in (e ∷ es) k ≡ name_in es k
other_code e es k q = rw q refl

module _ (es : List Entry) (list : es ≡ schema_list) (i : ℕ) (e : Entry) (k : ℕ) (at : slice_get es i ≡ Some e)
    (so_far : name_in (drop i schema_list) k ≡ row_name k) where
  first : name_in (e ∷ drop (suc i) schema_list) k ≡ row_name k
  first = sym (ap (λ l. name_in l k) (drop_at schema_list i e (ap (λ l. slice_get l i) (sym list) ∙ at))) ∙ so_far

  pub row_here : e.code ≡ k → e.name ≡ row_name k
  row_here is = sym (this_code e (drop (suc i) schema_list) k ((Decides-eqb e.code k).1 is)) ∙ first

  pub row_next : e.code ≢ k → name_in (drop (i + 1) schema_list) k ≡ row_name k
  row_next n =
      ap (λ j. name_in (drop j schema_list) k) (add-one i)
      ∙ sym (other_code e (drop (suc i) schema_list) k ((is_false (e.code ≡ k) (nat_eq e.code k) (Decides-eqb e.code k)).1 n)) ∙ first

pub no_row : (i k : ℕ) → length schema_list ≤ i → name_in (drop i schema_list) k ≡ row_name k → [] ≡ row_name k
no_row i k h so_far = ap (λ l. name_in l k) (sym (drop_all i schema_list h)) ∙ so_far

pub ruleset names = (row_here, row_next, no_row)
