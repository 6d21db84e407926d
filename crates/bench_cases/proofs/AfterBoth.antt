-- "After those two on socket 3 the posted list has 80 bytes": what the hub's table holds then is the table that is published.
use mathlib.Core.Path.{◌≡◌, ap, ◌∙◌}
use mathlib.Core.List.{[], ◌∷◌}
use lib.ListN.{length}
use Rattle.catalogue.proofs.Bench.{catalogue_c}
use Rattle.table.specs.Places.{slot_count, socket_count, empty_table}
use Rattle.list.specs.Tree.{none, value, list, int, blob}
use Rattle.list.specs.Bytes.{list_bytes}
use Rattle.publish.specs.Published.{pair, published}
use Rattle.publish.proofs.Cases.{cases}
use Rattle.hub.specs.Receive.{accepting, received_of}
use Rattle.hub.proofs.Bench.{ack_c, data_c, attached_c, filled_c, bench-receive}

pub record AfterBoth : Type 0 where
  pub ack : received_of catalogue_c (empty_table slot_count) 3 ack_c ≡ accepting attached_c 16
  pub values : received_of catalogue_c attached_c 3 data_c ≡ accepting filled_c 15
  -- "(3 7 blob (0 7) (2 1)) within an outer list"
  pub published-list :
      published slot_count socket_count catalogue_c filled_c ≡
      list
      (value (int 3) (value (int 7) (value (blob (1 ∷ 2 ∷ 3 ∷ 4 ∷ 5 ∷ 6 ∷ 7 ∷ 8 ∷ [])) (list (pair 0 (int 7)) (list (pair 2 (int 1)) none)))))
      none
  pub published-size : length (list_bytes (published slot_count socket_count catalogue_c filled_c)) ≡ 80

pub after_both : AfterBoth
after_both =
    record {
      ack = bench-receive.ack;
      values = bench-receive.values;
      published-list = ap (published slot_count socket_count catalogue_c) bench-receive.same_bytes ∙ cases.bench-list;
      published-size =
          ap (λ t. length (list_bytes (published slot_count socket_count catalogue_c t))) bench-receive.same_bytes ∙ cases.bench-size;
    }
