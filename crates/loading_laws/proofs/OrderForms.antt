-- What a command of any form asks for is lawful.
use Rattle.std.proofs.Common.{◌≡◌, refl, ℕ, ◌-◌, ◌≤◌, ◌<◌, Bool, true, false, ◌&&◌, ◌||◌, cond, arith, List, [], ◌∷◌, length, Option, Some, None}
use Rattle.std.specs.Prelude.{codes, nat_le, option_and_then, option_map}
use Rattle.std.specs.Str.{bytes_eq}
use Rattle.soar_sym.specs.Words.{IsKnown, Texts}
use Rattle.soar_sym.specs.declared.symbol.Sym.{Sym}
use Rattle.defs_text.specs.Bytes.{is_capital, is_small}
use Rattle.defs_text.specs.Numbered.{word_in}
use Rattle.defs_text.specs.Symbols.{is_identifier_form, is_identifier_number}
use Rattle.defs_soar.specs.declared.choice.Mode.TheVariants as mode
use Rattle.defs_run.specs.Arguments.{Argument, bare, barred, label, number, signed, caret, no_argument, attribute_of, bare_symbol, id_of, identifier_of, is_small_form, name_of, operand_of}
use Rattle.defs_run.specs.CommandForms.{alone, chunk_order, Form, form_in, forms, input_order, matches_order, mode_order, name_order, number_order, print_order, printing_order, selection_order, slot_order, switch_order, tag_order, triple_order}
use Rattle.defs_run.specs.Orders.{Operand, is_symbol, Order, add_wme, chunk, excise, explain, init_soar, local_negations, matches_of, max_elaborations, preferences, print_chunks, print_id, print_memory, print_name, print_rules, queue, quit, random, run_cycles, select_by, stats, watch}
use Rattle.defs_run.specs.RandomReading.{numbers_of, random_order}
use Rattle.loading_laws.specs.Orders.{AreOperandsKnown, IsLawfulOrder, IsOperandKnown}
use Rattle.loading_laws.proofs.LiteralLists.{word_literal}

-- ---- operands

letter_known : (letter : ℕ) (s c : Bool) → is_small letter ≡ s → is_capital letter ≡ c → (s || c) ≡ true → (65 ≤ cond s (letter - 32) letter) × (cond s (letter - 32) letter ≤ 90)
letter_known letter true c p q h = (grind arith, grind arith)
letter_known letter false true p q h = (grind arith, grind arith)
letter_known letter false false p q h = absurd (cc)

one_of_them : (c s n : Bool) → ((c && n) || (s && n)) ≡ true → (s || c) ≡ true
one_of_them true true n h = refl
one_of_them true false n h = refl
one_of_them false true n h = refl
one_of_them false false n h = absurd (cc)

-- the order, where there is one, is lawful
abbrev pub IfLawful : Texts → Option Order → Type 0
IfLawful words (Some order) = IsLawfulOrder words order
IfLawful words None = Unit {0}

module _ (words : Texts) (some : 0 < length words) where
  identifier_known : (text : List ℕ) → (is_identifier_form text || is_small_form text) ≡ true → IsKnown words (identifier_of text)
  identifier_known [] h = absurd (cc)
  identifier_known (letter ∷ digits) h =
      letter_known letter (is_small letter) (is_capital letter) refl refl (one_of_them (is_capital letter) (is_small letter) (is_identifier_number digits) h)

  bare_known : (text : List ℕ) → IsKnown words (bare_symbol words text)
  bare_known text = go (is_identifier_form text) refl
    where
      or_small : (b c : Bool) → b ≡ true → (b || c) ≡ true
      or_small true c h = refl
      or_small false c h = absurd (cc)

      go : (b : Bool) → is_identifier_form text ≡ b → IsKnown words (cond b (identifier_of text) (word_in words text))
      go true q = identifier_known text (or_small (is_identifier_form text) (is_small_form text) q)
      go false q = word_literal words text some

  abbrev IfKnown : Option Operand → Type 0
  IfKnown (Some o) = IsOperandKnown words o
  IfKnown None = Unit {0}

  operand_known : (a : Argument) → IfKnown (operand_of words a)
  operand_known (bare text) = bare_known text
  operand_known (barred text) = word_literal words text some
  operand_known (label name) = tt
  operand_known (number n) = tt
  operand_known (signed z) = tt
  operand_known caret = tt
  operand_known no_argument = tt

  attribute_known : (a : Argument) → IfKnown (attribute_of words a)
  attribute_known (bare text) = bare_known text
  attribute_known (barred text) = word_literal words text some
  attribute_known (label name) = tt
  attribute_known (number n) = tt
  attribute_known (signed z) = tt
  attribute_known caret = tt
  attribute_known no_argument = tt

  id_known : (a : Argument) → IfKnown (id_of a)
  id_known (bare text) = go (is_identifier_form text || is_small_form text) refl
    where
      go : (b : Bool) → (is_identifier_form text || is_small_form text) ≡ b → IfKnown (cond b (Some (is_symbol (identifier_of text))) None)
      go true q = identifier_known text q
      go false q = tt
  id_known (barred text) = tt
  id_known (label name) = tt
  id_known (number n) = tt
  id_known (signed z) = tt
  id_known caret = tt
  id_known no_argument = tt

  -- ---- forms

  mapped_lawful : {A : Type 0} (f : A → Order) (o : Option A) → ((a : A) → IsLawfulOrder words (f a)) → IfLawful words (option_map f o)
  mapped_lawful f (Some a) each = each a
  mapped_lawful f None each = tt

  number_lawful : (low high : ℕ) (f : ℕ → Order) (arguments : List Argument) → ((n : ℕ) → IsLawfulOrder words (f n)) → IfLawful words (number_order low high f arguments)
  number_lawful low high f (number n ∷ []) each = go (nat_le low n && nat_le n high)
    where
      go : (b : Bool) → IfLawful words (cond b (Some (f n)) None)
      go true = each n
      go false = tt
  number_lawful low high f other each = tt

  tag_lawful : (arguments : List Argument) → IfLawful words (tag_order arguments)
  tag_lawful (number n ∷ []) = tt
  tag_lawful other = tt

  name_lawful : (f : Sym → Order) (arguments : List Argument) → ((s : Sym) → IsLawfulOrder words (f s)) → IfLawful words (name_order words f arguments)
  name_lawful f (a ∷ []) each = mapped_lawful f (name_of words a) each
  name_lawful f other each = tt

  alone_lawful : (order : Order) (arguments : List Argument) → IsLawfulOrder words order → IfLawful words (alone order arguments)
  alone_lawful order [] h = h
  alone_lawful order (a ∷ arguments) h = tt

  triple_lawful : (f : Operand → Operand → Operand → Order) (arguments : List Argument) → ((id attr value : Operand) → AreOperandsKnown words id attr value → IsLawfulOrder words (f id attr value))
      → IfLawful words (triple_order words f arguments)
  triple_lawful f (i ∷ caret ∷ a ∷ v ∷ []) each = go (id_of i) (attribute_of words a) (operand_of words v) (id_known i) (attribute_known a) (operand_known v)
    where
      go : (x y z : Option Operand) → IfKnown x → IfKnown y → IfKnown z → IfLawful words (option_and_then (λ id. option_and_then (λ attr. option_map (f id attr) z) y) x)
      go (Some id) (Some attr) (Some value) h k l = each id attr value (record { id_known = h; attr_known = k; value_known = l })
      go (Some id) (Some attr) None h k l = tt
      go (Some id) None z h k l = tt
      go None y z h k l = tt
  triple_lawful f other each = tt

  input_lawful : (arguments : List Argument) → IfLawful words (input_order words arguments)
  input_lawful (bare text ∷ arguments) = go (bytes_eq text (codes "add")) (bytes_eq text (codes "remove"))
    where
      go : (a b : Bool) → IfLawful words (cond a (triple_order words (queue true) arguments) (cond b (triple_order words (queue false) arguments) None))
      go true b = triple_lawful (queue true) arguments (λ id attr value h. h)
      go false true = triple_lawful (queue false) arguments (λ id attr value h. h)
      go false false = tt
  input_lawful other = tt

  slot_lawful : (arguments : List Argument) → IfLawful words (slot_order words arguments)
  slot_lawful (i ∷ a ∷ []) = go (id_of i) (attribute_of words a)
    where
      go : (x y : Option Operand) → IfLawful words (option_and_then (λ id. option_map (preferences id) y) x)
      go (Some id) y = mapped_lawful (preferences id) y (λ attr. tt)
      go None y = tt
  slot_lawful other = tt

  matches_lawful : (arguments : List Argument) → IfLawful words (matches_order words arguments)
  matches_lawful [] = tt
  matches_lawful (a ∷ arguments) = name_lawful matches_of (a ∷ arguments) (λ s. tt)

  print_lawful : (a : Argument) → IfLawful words (print_order words a)
  print_lawful (bare text) = go (bytes_eq text (codes "--wm")) (bytes_eq text (codes "--rules")) (bytes_eq text (codes "--chunks")) (id_of (bare text))
    where
      go : (a b c : Bool) (o : Option Operand)
          → IfLawful words (cond a (Some print_memory) (cond b (Some print_rules) (cond c (Some print_chunks) (elim o as (λ x. Option Order) [ Some id ↦ Some (print_id id) | None ↦ option_map print_name (name_of words (bare text)) ]))))
      go true b c o = tt
      go false true c o = tt
      go false false true o = tt
      go false false false (Some id) = tt
      go false false false None = mapped_lawful print_name (name_of words (bare text)) (λ s. tt)
  print_lawful (label name) = tt
  print_lawful (barred text) = tt
  print_lawful (number n) = tt
  print_lawful (signed z) = tt
  print_lawful caret = tt
  print_lawful no_argument = tt

  printing_lawful : (arguments : List Argument) → IfLawful words (printing_order words arguments)
  printing_lawful (a ∷ []) = print_lawful a
  printing_lawful other = tt

  switch_lawful : (arguments : List Argument) → IfLawful words (switch_order arguments)
  switch_lawful (bare text ∷ []) = go (bytes_eq text (codes "on")) (bytes_eq text (codes "off"))
    where
      go : (a b : Bool) → IfLawful words (cond a (Some (local_negations true)) (cond b (Some (local_negations false)) None))
      go true b = tt
      go false true = tt
      go false false = tt
  switch_lawful other = tt

  chunk_lawful : (arguments : List Argument) → IfLawful words (chunk_order arguments)
  chunk_lawful (bare text ∷ []) = go (bytes_eq text (codes "always")) (bytes_eq text (codes "never"))
    where
      go : (a b : Bool) → IfLawful words (cond a (Some (chunk true)) (cond b (Some (chunk false)) None))
      go true b = tt
      go false true = tt
      go false false = tt
  chunk_lawful (bare text ∷ a ∷ arguments) = go (bytes_eq text (codes "allow-local-negations"))
    where
      go : (b : Bool) → IfLawful words (cond b (switch_order (a ∷ arguments)) None)
      go true = switch_lawful (a ∷ arguments)
      go false = tt
  chunk_lawful other = tt

  mode_lawful : (text : List ℕ) → IfLawful words (mode_order text)
  mode_lawful text = go (bytes_eq text (codes "first")) (bytes_eq text (codes "last")) (bytes_eq text (codes "softmax"))
    where
      go : (a b c : Bool) → IfLawful words (cond a (Some (select_by mode.First)) (cond b (Some (select_by mode.Last)) (cond c (Some (select_by mode.Softmax)) None)))
      go true b c = tt
      go false true c = tt
      go false false true = tt
      go false false false = tt

  selection_lawful : (arguments : List Argument) → IfLawful words (selection_order arguments)
  selection_lawful (bare text ∷ []) = mode_lawful text
  selection_lawful (bare text ∷ number p ∷ number q ∷ []) = go (bytes_eq text (codes "epsilon-greedy") && (nat_le p q && (nat_le 1 q && nat_le q 1000000)))
    where
      go : (b : Bool) → IfLawful words (cond b (Some (select_by (mode.EpsilonGreedy p q))) None)
      go true = tt
      go false = tt
  selection_lawful other = tt

  pub random_lawful : (arguments : List Argument) → IfLawful words (random_order arguments)
  random_lawful [] = tt
  random_lawful (a ∷ arguments) = mapped_lawful random (numbers_of (a ∷ arguments)) (λ ns. tt)

-- ---- all of them

abbrev pub FormIsLawful : Form → Type 0
FormIsLawful f = (words : Texts) (arguments : List Argument) → 0 < length words → IfLawful words (f.order words arguments)

abbrev FormsAreLawful : List Form → Type 0
FormsAreLawful [] = Unit {0}
FormsAreLawful (f ∷ fs) = FormIsLawful f × FormsAreLawful fs

forms_lawful : FormsAreLawful forms
forms_lawful = (
  (λ words arguments some. name_lawful words some excise arguments (λ s. tt)),
  (
    (λ words arguments some. triple_lawful words some add_wme arguments (λ id attr value h. h)),
    (
      (λ words arguments some. tag_lawful words some arguments),
      (
        (λ words arguments some. input_lawful words some arguments),
        (
          (λ words arguments some. number_lawful words some 1 1000000 run_cycles arguments (λ n. tt)),
          (
            (λ words arguments some. number_lawful words some 0 5 watch arguments (λ n. tt)),
            (
              (λ words arguments some. matches_lawful words some arguments),
              (
                (λ words arguments some. slot_lawful words some arguments),
                (
                  (λ words arguments some. printing_lawful words some arguments),
                  (
                    (λ words arguments some. chunk_lawful words some arguments),
                    (
                      (λ words arguments some. selection_lawful words some arguments),
                      (
                        (λ words arguments some. number_lawful words some 1 10000 max_elaborations arguments (λ n. tt)),
                        (
                          (λ words arguments some. name_lawful words some explain arguments (λ s. tt)),
                          (
                            (λ words arguments some. alone_lawful words some stats arguments tt),
                            (
                              (λ words arguments some. alone_lawful words some init_soar arguments tt),
                              ((λ words arguments some. alone_lawful words some quit arguments tt), tt),
                            ),
                          ),
                        ),
                      ),
                    ),
                  ),
                ),
              ),
            ),
          ),
        ),
      ),
    ),
  ),
)

abbrev pub IfFormLawful : Option Form → Type 0
IfFormLawful (Some f) = FormIsLawful f
IfFormLawful None = Unit {0}

in_lawful : (fs : List Form) (word : List ℕ) → FormsAreLawful fs → IfFormLawful (form_in fs word)
in_lawful [] word h = tt
in_lawful (f ∷ fs) word h = go (bytes_eq f.word word) (in_lawful fs word h.1)
  where
    go : (b : Bool) → IfFormLawful (form_in fs word) → IfFormLawful (cond b (Some f) (form_in fs word))
    go true later = h.0
    go false later = later

pub form_lawful : (word : List ℕ) → IfFormLawful (form_in forms word)
form_lawful word = in_lawful forms word forms_lawful
