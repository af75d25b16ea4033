-- Lists of operations and their puts, and the lists of a publisher.
use Rattle.std.specs.Prelude.{◌≡◌, ◌≤◌, true, List, [], ◌∷◌, ◌++◌, refl}
use Rattle.std.specs.Coded.{Coded, code_by, coded×, coded_list}
use Rattle.std.specs.FinMap as map
use Rattle.logbook.specs.Pages.{Book, book_coded}
use Rattle.cg_types.specs.declared.limits.TheConstants.{MEMBER_LIMIT}
use Rattle.cg_table.specs.Values.{TableValue, table_code}
use Rattle.cg_table.specs.Puts.{Put, puts_code, with_puts, keep_order}

-- the puts of operations, in order
abbrev pub joined : List (List Put) → List Put
joined [] = []
joined (ps ∷ pss) = ps ++ joined pss

-- xs begins with ys
abbrev pub StartsWith : List Put → List Put → Type 0
StartsWith xs ys = (rest : List Put) × (xs ≡ ys ++ rest)

-- the table that views open with, the published operations, and those appended since
pub record PublisherValue : Type 0 where
  pub opening : TableValue
  pub published : List Put
  pub pending : List Put

-- a publisher that has published nothing
abbrev pub opened_with : TableValue → PublisherValue
opened_with t = record { opening = t; published = []; pending = [] }

-- all puts that were appended
abbrev pub are_all : PublisherValue → List Put
are_all p = p.published ++ p.pending

-- Puts may follow in a table if, one after the other, each is later than what is held, the own one goes on from it, and
-- the table with them is within its limit.
pub record MayFollow (t : TableValue) (puts : List Put) : Type 0 where
  pub order : keep_order t puts ≡ true
  pub room : map.len (with_puts t puts).entries ≤ MEMBER_LIMIT

-- puts may be appended if they may follow all that were appended
abbrev pub MayAppend : PublisherValue → List Put → Type 0
MayAppend p puts = MayFollow (with_puts p.opening (are_all p)) puts

-- more puts are pending
abbrev pub appended : List Put → PublisherValue → PublisherValue
appended puts p = record { opening = p.opening; published = p.published; pending = p.pending ++ puts }

-- all pending puts are published, after those that were published
abbrev pub all_published : PublisherValue → PublisherValue
all_published p = record { opening = p.opening; published = p.published ++ p.pending; pending = [] }

-- a prefix of the operations of a book
pub record FrontValue : Type 0 where
  pub of : Book
  pub all : List (List Put)

-- the codes that models of such values require
abbrev pub front_code : Coded FrontValue
front_code =
    code_by (Book × List (List Put)) (coded× book_coded (coded_list puts_code)) (λ f. (f.of, f.all))
    (λ p. record { of = p.0; all = p.1 }) (λ _. refl)

abbrev pub publisher_code : Coded PublisherValue
publisher_code =
    code_by (TableValue × (List Put × List Put)) (coded× table_code (coded× puts_code puts_code))
    (λ p. (p.opening, (p.published, p.pending)))
    (λ q. record { opening = q.0; published = q.1.0; pending = q.1.1 }) (λ _. refl)
