-- The lines of a phase, in the order of its records.
use Rattle.std.specs.Prelude.{◌≡◌, ℕ, suc, ◌+◌, ◌<◌, ◌≤◌, List, map, length, take, slice_index_or}
use Rattle.switch_event.specs.Config.{Config}
use Rattle.event_record.specs.Entry.{Entry}
use Rattle.table_defs.specs.Table.{Table, Change, opening_table}
use Rattle.legal_defs.specs.Runs.{Numbered, runs_on, served_by, controls_in}
use Rattle.legal_defs.specs.Blocks.{Line, record_of, said_in}
use Rattle.legal_defs.specs.Blocks.Line.{Reply, Decision}
use Rattle.legal_defs.specs.Legal.{Each, InOrder, Replies, times, once_below}
use Rattle.race_lanes.specs.declared.lanes.LaneOut.{LaneOut}
use Rattle.race_lanes.specs.declared.workers.WorkerJob.{WorkerJob}
use Rattle.race_lanes.specs.Shares.{controls_of, datas_of, said_on, heard_on}
use Rattle.race_lanes.specs.Workers.{Saw}

-- the lines of these records are put in order, and these are the next places in what lanes and
-- workers printed
pub record Walked (lanes workers : ℕ) (outs : List LaneOut) (jobs : List WorkerJob)
    (done : List Numbered) (lane_next worker_next : List ℕ) (lines : List Line) : Type 0 where
  pub lane_count : length lane_next ≡ lanes
  pub worker_count : length worker_next ≡ workers
  pub each : map record_of lines ≡ done
  pub lane_at : (l : ℕ) → l < lanes
      → slice_index_or lane_next l 0 ≡ length (controls_of lanes (suc l) done)
  pub worker_at : (k : ℕ) → k < workers
      → slice_index_or worker_next k 0 ≡ length (datas_of workers k done)
  pub said : (l : ℕ) (d : LaneOut) → l < lanes
      → said_on lanes (suc l) lines ≡ take (length (controls_of lanes (suc l) done))
      (slice_index_or outs l d).said
  pub heard : (k : ℕ) (d : WorkerJob) → k < workers
      → heard_on workers k lines ≡ take (length (datas_of workers k done))
      (slice_index_or jobs k d).decided

-- lanes and workers printed something for each of their records
pub record AreWhole (lanes workers : ℕ) (records : List Numbered) (outs : List LaneOut)
    (jobs : List WorkerJob) : Type 0 where
  pub lane_count : length outs ≡ lanes
  pub worker_count : length jobs ≡ workers
  pub said : (l : ℕ) (d : LaneOut) → l < lanes
      → length (slice_index_or outs l d).said ≡ length (controls_of lanes (suc l) records)
  pub heard : (k : ℕ) (d : WorkerJob) → k < workers
      → length (slice_index_or jobs k d).decided ≡ length (datas_of workers k records)

-- lines for all records, with what lanes and workers printed, in order
pub record Merged (lanes workers : ℕ) (records : List Numbered) (outs : List LaneOut)
    (jobs : List WorkerJob) (lines : List Line) : Type 0 where
  pub each : map record_of lines ≡ records
  pub said : (l : ℕ) (d : LaneOut) → l < lanes
      → said_on lanes (suc l) lines ≡ (slice_index_or outs l d).said
  pub heard : (k : ℕ) (d : WorkerJob) → k < workers
      → heard_on workers k lines ≡ (slice_index_or jobs k d).decided

-- a decision was made by a list between what its worker had seen before and after
abbrev pub SawFrom : Table → (workers : ℕ) → (least most : ℕ → List Change) → Line → Type 0
SawFrom first workers least most (Reply e s) = Unit {0}
SawFrom first workers least most (Decision x d) =
    Saw first (least (served_by workers x.port)) (most (served_by workers x.port)) x d

-- within a phase: a lane's serials rise, and a worker's fronts never fall
abbrev pub Beside : (lanes workers : ℕ) → Line → Line → Type 0
Beside lanes workers (Reply e s) (Reply f t) =
    runs_on lanes e.lane ≡ runs_on lanes f.lane → s.count < t.count
Beside lanes workers (Reply e s) (Decision x d) = Unit {0}
Beside lanes workers (Decision x d) (Reply e s) = Unit {0}
Beside lanes workers (Decision x d) (Decision y f) =
    served_by workers x.port ≡ served_by workers y.port → d.count ≤ f.count

-- the lines of a phase that found so many entries and left this history, of workers that had seen
-- these lists before and after
pub record PhaseLines (c : Config) (lanes workers from : ℕ) (h : List Entry)
    (records : List Numbered) (least most : ℕ → List Change) (lines : List Line) : Type 0 where
  pub each : map record_of lines ≡ records
  pub replies : Each (Replies c h lanes) lines
  pub saw : Each (SawFrom (opening_table c) workers least most) lines
  pub order : InOrder (Beside lanes workers) lines
  pub once : (p : ℕ) → times (from + p) (said_in lines) ≡ once_below p (controls_in records)
  pub none_before : (n : ℕ) → n < from → times n (said_in lines) ≡ 0
  pub count : length h ≡ from + controls_in records
