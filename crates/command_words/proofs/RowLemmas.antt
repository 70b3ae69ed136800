-- What a use of an argument makes of the rows, by the values of each id.
use Rattle.std.proofs.Common.{◌≡◌, ◌∙◌, ap, refl, Bool, true, false, List, [], ◌∷◌, ◌++◌, Some, is_some, unwrap_or}
use Rattle.std.specs.Str.{bytes_eq}
use Rattle.std.proofs.lemmas.Slice.Eq.{bytes_eq-Decides}
use Rattle.clap.specs.Walk.{Row, Text, all_of, has_row, with_values, without}
use Rattle.clap.specs.declared.builder.value_parser.Reading.{Reading}
use Rattle.clap.specs.declared.parser.matches.ValueSource.{ValueSource}

-- an id that one text is, is not another
other_id : (r id other : Text) → bytes_eq id other ≡ false → bytes_eq r id ≡ true → bytes_eq r other ≡ false
other_id r id other apart same = ap (λ t. bytes_eq t other) ((bytes_eq-Decides r id).0 same) ∙ apart

pub has_row-all_of : (id : Text) (rows : List Row) → has_row id rows ≡ is_some (all_of id rows)
has_row-all_of id [] = refl
has_row-all_of id (r ∷ rows) = go (has_row-all_of id rows) (bytes_eq r.id id) refl
  where
    go : has_row id rows ≡ is_some (all_of id rows) → (b : Bool) → bytes_eq r.id id ≡ b → has_row id (r ∷ rows) ≡ is_some (all_of id (r ∷ rows))
    go rest true e = simp e refl
    go rest false e = simp e rest

pub without_none : (id : Text) (rows : List Row) → has_row id rows ≡ false → without id rows ≡ rows
without_none id [] none = refl
without_none id (r ∷ rows) none = go (without_none id rows) (bytes_eq r.id id) refl none
  where
    go : (has_row id rows ≡ false → without id rows ≡ rows) → (b : Bool) → bytes_eq r.id id ≡ b
        → has_row id (r ∷ rows) ≡ false → without id (r ∷ rows) ≡ r ∷ rows
    go others true e h =
        let bad : true ≡ false = rw e at h in
        cc
    go others false e h = rw e (ap (λ (rest : List Row). r ∷ rest) (others (rw e at h)))

pub all_of-used : (id : Text) (how : Reading) (s : ValueSource) (values : List Text) (rows : List Row) → bytes_eq id id ≡ true
    → all_of id (with_values id how s values rows) ≡ Some (unwrap_or (all_of id rows) [] ++ values)
all_of-used id how s values [] same = rw same refl
all_of-used id how s values (r ∷ rows) same = go (all_of-used id how s values rows same) (bytes_eq r.id id) refl
  where
    go : all_of id (with_values id how s values rows) ≡ Some (unwrap_or (all_of id rows) [] ++ values) → (b : Bool) → bytes_eq r.id id ≡ b
        → all_of id (with_values id how s values (r ∷ rows)) ≡ Some (unwrap_or (all_of id (r ∷ rows)) [] ++ values)
    go rest true e = simp e refl
    go rest false e = simp e rest

pub all_of-others : (id other : Text) (how : Reading) (s : ValueSource) (values : List Text) (rows : List Row) → bytes_eq id other ≡ false
    → all_of other (with_values id how s values rows) ≡ all_of other rows
all_of-others id other how s values [] apart = rw apart refl
all_of-others id other how s values (r ∷ rows) apart = go (all_of-others id other how s values rows apart) (bytes_eq r.id id) refl
  where
    stays : all_of other (with_values id how s values rows) ≡ all_of other rows → (b : Bool) → bytes_eq r.id other ≡ b → bytes_eq r.id id ≡ false
        → all_of other (with_values id how s values (r ∷ rows)) ≡ all_of other (r ∷ rows)
    stays rest true f e = rw (e, f) refl
    stays rest false f e = rw (e, f) rest

    go : all_of other (with_values id how s values rows) ≡ all_of other rows → (b : Bool) → bytes_eq r.id id ≡ b
        → all_of other (with_values id how s values (r ∷ rows)) ≡ all_of other (r ∷ rows)
    go rest true e =
        let f = other_id r.id id other apart e in
        rw (e, f) refl
    go rest false e = stays rest (bytes_eq r.id other) refl e
