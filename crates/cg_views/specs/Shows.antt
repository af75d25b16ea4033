-- Shown tables with their operations, and what a publisher has beside them.
use Rattle.std.specs.Prelude.{◌≡◌, true, List, drop, length, refl}
use mathlib.Core.List.{IsPrefix}
use Rattle.std.specs.Coded.{Coded, code_by, coded×}
use Rattle.logbook.specs.Pages.{Book}
use Rattle.cg_table.specs.Values.{TableValue, table_code}
use Rattle.cg_table.specs.Puts.{with_puts, keep_order}
use Rattle.cg_views.specs.Lists.{joined, FrontValue, front_code, PublisherValue}

-- a table, and all operations that made it
pub record ShownValue : Type 0 where
  pub table : TableValue
  pub front : FrontValue

-- the last one that is taken in is the shown one
abbrev pub latest : ShownValue → ShownValue → ShownValue
latest s o = o

-- The table is the opening one after the puts of the operations, each later than what was held.
pub record IsSound (book : Book) (opening : TableValue) (s : ShownValue) : Type 0 where
  pub of_book : s.front.of ≡ book
  pub table_is : s.table ≡ with_puts opening (joined s.front.all)
  pub order : keep_order opening (joined s.front.all) ≡ true

-- a publisher, by the operations that are published and by all that were appended
abbrev pub publisher_of : TableValue → FrontValue → FrontValue → PublisherValue
publisher_of opening shown last = record {
  opening = opening;
  published = joined shown.all;
  pending = joined (drop (length shown.all) last.all);
}

-- The shown operations are a prefix of the appended ones.
pub record IsPublisher (book : Book) (opening : TableValue) (shown last : ShownValue) (head : Book) : Type 0 where
  pub shown_sound : IsSound book opening shown
  pub last_sound : IsSound book opening last
  pub begins : IsPrefix shown.front.all last.front.all
  pub head_is : head ≡ book

-- the code that the model of a shown table requires
abbrev pub shown_code : Coded ShownValue
shown_code =
    code_by (TableValue × FrontValue) (coded× table_code front_code) (λ s. (s.table, s.front))
    (λ p. record { table = p.0; front = p.1 }) (λ _. refl)
