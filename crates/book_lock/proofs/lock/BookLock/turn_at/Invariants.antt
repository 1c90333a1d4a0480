use Rattle.event_record.specs.Entry.{entry_of}
use Rattle.book_lock.proofs.lock.BookLock.turn_at.Given as goal

-- the entry of this event
abbrev pub ghosts-run : goal.ghosts-run
ghosts-run g a = record { entry = entry_of a.lane a.e.now }
