-- What a bare word behind `print` asks for.
use Rattle.std.proofs.Common.{◌≡◌, ℕ, ◌||◌, Bool, true, false, List, Option, Some, None, refl, ◌∙◌}
use Rattle.std.specs.Prelude.{option_map, if◌then◌else◌, codes}
use Rattle.std.specs.Str.{bytes_eq}
use Rattle.soar_sym.specs.Words.{Texts}
use Rattle.defs_text.specs.Numbered.{word_in}
use Rattle.defs_text.specs.Symbols.{is_identifier_form}
use Rattle.defs_run.specs.Arguments.{bare, identifier_of, id_of, is_small_form, name_of}
use Rattle.defs_run.specs.CommandForms.{print_order}
use Rattle.defs_run.specs.Orders.{Order, is_symbol, print_id, print_name, print_memory, print_rules, print_chunks}
use Rattle.command_orders.specs.Asked.{listing_by, shown_by}

-- where the word asks for no list
abbrev unlisted : Texts → List ℕ → Option Order
unlisted words text = elim (id_of (bare text)) as (λ _. Option Order) [ Some id ↦ Some (print_id id) | None ↦ option_map print_name (name_of words (bare text)) ]

pub listed : (words : Texts) (text : List ℕ) (order : Order) → Some order ≡ listing_by text → Some order ≡ print_order words (bare text)
listed words text order is = by (bytes_eq text (codes "--wm")) (bytes_eq text (codes "--rules")) (bytes_eq text (codes "--chunks")) is
  where
    by : (a b c : Bool) → Some order ≡ (if a then Some print_memory else if b then Some print_rules else if c then Some print_chunks else None)
        → Some order ≡ (if a then Some print_memory else if b then Some print_rules else if c then Some print_chunks else unlisted words text)
    by true b c is = is
    by false true c is = is
    by false false true is = is
    by false false false is = absurd (cc)

past_listings : (words : Texts) (text : List ℕ) → None ≡ listing_by text → print_order words (bare text) ≡ unlisted words text
past_listings words text is = by (bytes_eq text (codes "--wm")) (bytes_eq text (codes "--rules")) (bytes_eq text (codes "--chunks")) is
  where
    by : (a b c : Bool) → None ≡ (if a then Some print_memory else if b then Some print_rules else if c then Some print_chunks else None)
        → (if a then Some print_memory else if b then Some print_rules else if c then Some print_chunks else unlisted words text) ≡ unlisted words text
    by true b c is = absurd (cc)
    by false true c is = absurd (cc)
    by false false true is = absurd (cc)
    by false false false is = refl

shown : (words : Texts) (text : List ℕ) → unlisted words text ≡ Some (shown_by words text)
shown words text = by (is_identifier_form text) (is_small_form text)
  where
    by : (a b : Bool)
        → elim (if a || b then Some (is_symbol (identifier_of text)) else None) as (λ _. Option Order) [
          | Some id ↦ Some (print_id id)
          | None ↦ option_map print_name (if a then None else Some (word_in words text))
        ] ≡ Some (if a || b then print_id (is_symbol (identifier_of text)) else print_name (word_in words text))
    by true b = refl
    by false true = refl
    by false false = refl

-- where it asks for none
pub word_shown : (words : Texts) (text : List ℕ) → None ≡ listing_by text → print_order words (bare text) ≡ Some (shown_by words text)
word_shown words text is = past_listings words text is ∙ shown words text
