-- Lists of pointers, one pointer at a time.
use Rattle.std.proofs.Common.{◌≡◌, ◌≢◌, ℕ, zero, suc, ◌+◌, ◌-◌, ◌*◌, ◌<◌, List, ◌∙◌, ap, arith}
use Rattle.std.specs.Prelude.{Ok, Err, ◌==◌}
use Rattle.std.proofs.lemmas.Bool.{ne_eqb}
use Rattle.spec_document.specs.Forest.{size}
use Rattle.spec_document.specs.Document.{Document}
use Rattle.spec_fields.specs.declared.Kind.TheVariants.{TooMany}
use Rattle.spec_fields.specs.declared.ReadRefused.{ReadRefused}
use Rattle.spec_fields.specs.Reading.{Read, ◌>>=◌, fault, wants}
use Rattle.spec_fields.specs.Field.{word_at}
use Rattle.spec_fields.proofs.Steps.{onward, chosen_false}
use Rattle.spec_file.specs.Layers.{Upto, node_at, nodes_at}
use Rattle.spec_file.specs.Channels.{channel_at, channels_at}
use Rattle.spec_file.specs.declared.TheConstants.{CHANNEL_POINTERS}
use Rattle.spec_document.specs.declared.TheConstants.{MAX_NODES}

-- what was read fails
failed : {A B : Type 0} (read : Read A) (refused : ReadRefused) (rest : A → Read B) → read ≡ Err refused
    → (read >>= rest) ≡ Err refused
failed read refused rest h = ap (λ r. r >>= rest) h

module _ (file : List ℕ) where
  node_more : (room at pointer : ℕ) (d : Document) → word_at file at ≡ Ok pointer → pointer ≢ 0
      → nodes_at (suc room) file at d ≡ (node_at file pointer d >>= (λ new. nodes_at room file (at + 4) new))
  unfolding nodes_at
  node_more room at pointer d word some =
      onward (word_at file at) pointer _ word
      ∙ chosen_false (pointer == 0) (Ok (record { document = d; next = at + 4 }))
      (node_at file pointer d >>= (λ new. nodes_at room file (at + 4) new)) (ne_eqb pointer 0 some)

  node_end : (room at : ℕ) (d : Document) → word_at file at ≡ Ok 0
      → nodes_at room file at d ≡ Ok (record { document = d; next = at + 4 })
  unfolding nodes_at
  node_end zero at d word = onward (word_at file at) 0 _ word
  node_end (suc room) at d word = onward (word_at file at) 0 _ word

  node_cut : (room at : ℕ) (d : Document) (refused : ReadRefused) → word_at file at ≡ Err refused
      → nodes_at room file at d ≡ Err refused
  unfolding nodes_at
  node_cut zero at d refused word = failed (word_at file at) refused _ word
  node_cut (suc room) at d refused word = failed (word_at file at) refused _ word

  node_many : (at pointer : ℕ) (d : Document) → word_at file at ≡ Ok pointer → pointer ≢ 0
      → nodes_at 0 file at d ≡ Err (fault TooMany at)
  unfolding nodes_at
  node_many at pointer d word some =
      onward (word_at file at) pointer _ word
      ∙ ap (λ b. wants b (fault TooMany at) >>= (λ _. let all : Read Upto = Ok (record { document = d; next = at + 4 }) in all))
      (ne_eqb pointer 0 some)

  channel_more : (room at pointer : ℕ) (d : Document) → word_at file at ≡ Ok pointer → pointer ≢ 0
      → channels_at (suc room) file at d ≡ (channel_at file pointer at d >>= (λ new. channels_at room file (at + 4) new))
  unfolding channels_at
  channel_more room at pointer d word some =
      onward (word_at file at) pointer _ word
      ∙ chosen_false (pointer == 0) (Ok d) (channel_at file pointer at d >>= (λ new. channels_at room file (at + 4) new))
      (ne_eqb pointer 0 some)

  channel_end : (room at : ℕ) (d : Document) → word_at file at ≡ Ok 0 → channels_at (suc room) file at d ≡ Ok d
  unfolding channels_at
  channel_end room at d word = onward (word_at file at) 0 _ word

  channel_cut : (room at : ℕ) (d : Document) (refused : ReadRefused) → word_at file at ≡ Err refused
      → channels_at (suc room) file at d ≡ Err refused
  unfolding channels_at
  channel_cut room at d refused word = failed (word_at file at) refused _ word

-- after i layer pointers
pub record NodesLeft (file : List ℕ) (start : ℕ) (first : Document) (i : ℕ) (d : Document) : Type 0 where
  pub same : nodes_at MAX_NODES file start first ≡ nodes_at (MAX_NODES - i) file (start + 4 * i) d
  pub count : size d.nodes ≡ i

module _ (file : List ℕ) (start : ℕ) (first : Document) (i : ℕ) (d : Document) (left : NodesLeft file start first i d) where
  nodes_step : (pointer : ℕ) → i < MAX_NODES → word_at file (start + 4 * i) ≡ Ok pointer → pointer ≢ 0
      → nodes_at MAX_NODES file start first
      ≡ (node_at file pointer d >>= (λ new. nodes_at (MAX_NODES - (i + 1)) file (start + 4 * i + 4) new))
  nodes_step pointer low word some =
      let room : MAX_NODES - i ≡ suc (MAX_NODES - (i + 1)) = omega arith in
      left.same ∙ (ap (λ n. nodes_at n file (start + 4 * i) d) room
      ∙ node_more file (MAX_NODES - (i + 1)) (start + 4 * i) pointer d word some)

  pub nodes_next : (pointer : ℕ) (new : Document) → i < MAX_NODES → word_at file (start + 4 * i) ≡ Ok pointer → pointer ≢ 0
      → node_at file pointer d ≡ Ok new
      → size new.nodes ≡ 1 + size d.nodes → NodesLeft file start first (i + 1) new
  nodes_next pointer new low word some node grown =
      let place : start + 4 * i + 4 ≡ start + 4 * (i + 1) = omega arith in
      record {
        same = nodes_step pointer low word some
            ∙ (onward (node_at file pointer d) new _ node ∙ ap (λ n. nodes_at (MAX_NODES - (i + 1)) file n new) place);
        count = omega (arith, left.count, grown);
      }

  pub nodes_fault : (pointer : ℕ) (refused : ReadRefused) → i < MAX_NODES → word_at file (start + 4 * i) ≡ Ok pointer → pointer ≢ 0
      → node_at file pointer d ≡ Err refused
      → nodes_at MAX_NODES file start first ≡ Err refused
  nodes_fault pointer refused low word some node = nodes_step pointer low word some ∙ failed (node_at file pointer d) refused _ node

  pub nodes_end : word_at file (start + 4 * i) ≡ Ok 0
      → nodes_at MAX_NODES file start first ≡ Ok (record { document = d; next = start + 4 * i + 4 })
  nodes_end word = left.same ∙ node_end file (MAX_NODES - i) (start + 4 * i) d word

  pub nodes_cut : (refused : ReadRefused) → word_at file (start + 4 * i) ≡ Err refused
      → nodes_at MAX_NODES file start first ≡ Err refused
  nodes_cut refused word = left.same ∙ node_cut file (MAX_NODES - i) (start + 4 * i) d refused word

  pub nodes_many : (pointer : ℕ) → i ≡ MAX_NODES → word_at file (start + 4 * i) ≡ Ok pointer → pointer ≢ 0
      → nodes_at MAX_NODES file start first ≡ Err (fault TooMany (start + 4 * i))
  nodes_many pointer all word some =
      let room : MAX_NODES - i ≡ 0 = omega arith in
      left.same ∙ (ap (λ n. nodes_at n file (start + 4 * i) d) room ∙ node_many file (start + 4 * i) pointer d word some)

-- after i channel pointers
pub record ChannelsLeft (file : List ℕ) (start : ℕ) (first : Document) (i : ℕ) (d : Document) : Type 0 where
  pub same : channels_at CHANNEL_POINTERS file start first ≡ channels_at (CHANNEL_POINTERS - i) file (start + 4 * i) d

module _ (file : List ℕ) (start : ℕ) (first : Document) (i : ℕ) (d : Document) (left : ChannelsLeft file start first i d) where
  channels_here : i < CHANNEL_POINTERS → channels_at CHANNEL_POINTERS file start first
      ≡ channels_at (suc (CHANNEL_POINTERS - (i + 1))) file (start + 4 * i) d
  channels_here low =
      let room : CHANNEL_POINTERS - i ≡ suc (CHANNEL_POINTERS - (i + 1)) = omega arith in
      left.same ∙ ap (λ n. channels_at n file (start + 4 * i) d) room

  pub channels_next : (pointer : ℕ) (new : Document) → i < CHANNEL_POINTERS → word_at file (start + 4 * i) ≡ Ok pointer
      → pointer ≢ 0
      → channel_at file pointer (start + 4 * i) d ≡ Ok new → ChannelsLeft file start first (i + 1) new
  channels_next pointer new low word some channel =
      let place : start + 4 * i + 4 ≡ start + 4 * (i + 1) = omega arith in
      record {
        same = channels_here low ∙ (channel_more file (CHANNEL_POINTERS - (i + 1)) (start + 4 * i) pointer d word some
            ∙ (onward (channel_at file pointer (start + 4 * i) d) new _ channel
            ∙ ap (λ n. channels_at (CHANNEL_POINTERS - (i + 1)) file n new) place));
      }

  pub channels_fault : (pointer : ℕ) (refused : ReadRefused) → i < CHANNEL_POINTERS → word_at file (start + 4 * i) ≡ Ok pointer
      → pointer ≢ 0
      → channel_at file pointer (start + 4 * i) d ≡ Err refused → channels_at CHANNEL_POINTERS file start first ≡ Err refused
  channels_fault pointer refused low word some channel =
      channels_here low ∙ (channel_more file (CHANNEL_POINTERS - (i + 1)) (start + 4 * i) pointer d word some
      ∙ failed (channel_at file pointer (start + 4 * i) d) refused _ channel)

  pub channels_end : i < CHANNEL_POINTERS → word_at file (start + 4 * i) ≡ Ok 0 → channels_at CHANNEL_POINTERS file start first ≡ Ok d
  channels_end low word = channels_here low ∙ channel_end file (CHANNEL_POINTERS - (i + 1)) (start + 4 * i) d word

  pub channels_cut : (refused : ReadRefused) → i < CHANNEL_POINTERS → word_at file (start + 4 * i) ≡ Err refused
      → channels_at CHANNEL_POINTERS file start first ≡ Err refused
  channels_cut refused low word = channels_here low ∙ channel_cut file (CHANNEL_POINTERS - (i + 1)) (start + 4 * i) d refused word

  pub channels_many : i ≡ CHANNEL_POINTERS → channels_at CHANNEL_POINTERS file start first ≡ Err (fault TooMany (start + 4 * i))
  unfolding channels_at
  channels_many all =
      let room : CHANNEL_POINTERS - i ≡ 0 = omega arith in
      left.same ∙ ap (λ n. channels_at n file (start + 4 * i) d) room
