-- What was read is printed and read back with each later table of words.
use Rattle.std.specs.Prelude.{codes, map}
use Rattle.std.proofs.Common.{◌≡◌, sym, ◌∙◌, ap, subst, [], ◌∷◌, ◌++◌, List, ℕ, zero, suc, ◌≤◌, ◌<◌, ◌^◌, length}
use Rattle.soar_sym.specs.Words.{Texts, text_of}
use Rattle.soar_sym.specs.declared.symbol.Sym.{Sym}
use Rattle.soar_sym.specs.declared.symbol.Sym.TheVariants.{Ident, Word, Int}
use Rattle.soar_rule.specs.Laws.{CheckedStays, CheckedIsWhole, RenumberedStays}
use Rattle.soar_rule.specs.Productions.{ProductionOf}
use Rattle.defs_text.specs.Lexing.{lexed}
use Rattle.defs_text.specs.Symbols.{word_text, symbol_text}
use Rattle.defs_read.specs.Expansion.{ProductionRead}
use Rattle.defs_read.specs.Grammar.{Tree}
use Rattle.defs_read.specs.Printing.{doc_lines, kind_lines, support_lines, indented, production_text, lines_text}
use Rattle.defs_read.specs.PrintingConditions.{name_at, bare_text}
use Rattle.defs_read.specs.ReadingActions.{most_open}
use Rattle.reading_laws.specs.Lawful.{AllOf}
use Rattle.reading_laws.specs.Printable.{IsWord, IsNaming, AreConditions, IsPrintedAction, IsPrintable}
use Rattle.reading_laws.specs.Brackets.{brackets}
use Rattle.reading_laws.specs.TreeBack.{kind_back, support_back, tree_back}
use Rattle.defs_text.specs.Symbols.{stands_bare}
use Rattle.reading_laws.specs.WayBack.{printed, ReadsBack}
use Rattle.reading_laws.specs.Later.{IsReadAs, ReadStaysPrintable, ReadIsReadLater, CheckedIsReadLater}
use Rattle.reading_laws.proofs.BackLaws.{printed_is_read}
use Rattle.reading_laws.proofs.CheckedLaws.{only_order, checked_is_read}
use Rattle.reading_laws.proofs.InOrderPrintable.{IsNamed, reordered_named}
use Rattle.reading_laws.proofs.LaterPrintable.{first_later, placed_later, printable_later}
use Rattle.reading_laws.proofs.LaterText.{lines_same, actions_same, first_same, others_same, action_trees_same}
use Rattle.reading_laws.proofs.PrintableLaws.{read_is_printable}

name_same : (words more : Texts) (s : Sym) → IsWord words s → symbol_text (words ++ more) s ≡ symbol_text words s
name_same words more (Word w) h = ap word_text (placed_later words more (Word w) h.0).1
name_same words more (Ident letter count) h = absurd (let e = h.0 in cc)
name_same words more (Int value) h = absurd (let e = h.0 in cc)

-- a number without a variable has the first word as its name
named_same : (words more : Texts) (vars : List Sym) → text_of words 0 ≡ codes "state" → AllOf (IsNaming words) vars → (v : ℕ) → bare_text (words ++ more) (name_at vars v) ≡ bare_text words (name_at vars v)
named_same words more [] state h v = first_later words more state ∙ sym state
named_same words more (s ∷ vars) state h zero = (placed_later words more s h.0.0).1
named_same words more (s ∷ vars) state h (suc v) = named_same words more vars state h.1 v

module _ (words more : Texts) (p : ProductionOf) (state : text_of words 0 ≡ codes "state") (name : IsWord words p.name) (names : AllOf (IsNaming words) p.vars)
    (conditions : AreConditions p.conditions words) (actions : AllOf (IsPrintedAction words) p.actions) where
  named : (v : ℕ) → bare_text (words ++ more) (name_at p.vars v) ≡ bare_text words (name_at p.vars v)
  named = named_same words more p.vars state names

  text_later : printed (words ++ more) p ≡ printed words p
  unfolding production_text
  text_later =
      let first = name_same words more p.name name in
      let lines = lines_same words more p.vars named p.conditions conditions in
      let made = actions_same words more p.vars named p.actions actions in
      λ i. lines_text ((codes "sp {" ++ first i) ∷ (map indented (doc_lines p.doc ++ (kind_lines p.kind ++ (support_lines p.support ++ (lines i ++ (codes "-->" ∷ made i))))) ++ (codes "}" ∷ [])))

  tree_later : tree_back (words ++ more) p ≡ tree_back words p
  tree_later =
      let text = (placed_later words more p.name name.0).1 in
      let first = first_same words more p.vars named p.conditions conditions in
      let others = others_same words more p.vars named p.conditions conditions in
      let made = action_trees_same words more p.vars named p.actions actions in
      λ i. record { name = text i; bare = stands_bare (text i); doc = p.doc; flags = kind_back p.kind ++ support_back p.support; part = first i; parts = others i; actions = made i }

-- ---- the clauses

was_printable : (words : Texts) (text : List ℕ) (tree : Tree) (r : ProductionRead) → IsReadAs words text tree r → IsPrintable r.words r.production
was_printable words text tree r h =
    subst (λ (x : ProductionRead). IsPrintable x.words x.production) (sym h.means)
    (read_is_printable words h.grown.0 text tree h.grown.1 h.small h.read (subst (λ (x : ProductionRead). length x.production.vars < 2 ^ 32) h.means h.few))

pub read_stays_printable : ReadStaysPrintable
read_stays_printable words text tree r h more = printable_later r.words more r.production (was_printable words text tree r h)

pub read_is_read_later : ReadIsReadLater
read_is_read_later words text tree r h few more =
    let p = was_printable words text tree r h in
    let same = text_later r.words more r.production p.state p.name p.names p.conditions p.actions in
    let tree_is = tree_later r.words more r.production p.state p.name p.names p.conditions p.actions in (
      same,
      subst (λ t. ReadsBack (r.words ++ more) r.production (lexed t)) same
          (printed_is_read (r.words ++ more) r.production (printable_later r.words more r.production p) (subst (λ (t : Tree). brackets t ≤ most_open) (sym tree_is) few)),
    )

pub checked_is_read_later : CheckedStays → CheckedIsWhole → RenumberedStays → CheckedIsReadLater
checked_is_read_later stays whole renumbered words text tree r q h e more =
    let p = was_printable words text tree r h in
    let n : IsNamed r.words q = subst (IsNamed r.words) (only_order r.production q e) (reordered_named r.words r.production q.conditions p (whole r.production q e)) in (
      text_later r.words more q n.state n.name n.names n.conditions n.actions,
      checked_is_read stays whole renumbered (r.words ++ more) r.production q (printable_later r.words more r.production p) e,
    )
