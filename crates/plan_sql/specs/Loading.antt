-- The comment at the head of a query: where it is right, and how its tables are made and loaded. Lines that begin with three blanks behind
-- the dashes are for the database: the others say for which one.
use Rattle.std.specs.Prelude.{ℕ, ◌==◌, List, ◌++◌, codes, if◌then◌else◌}

-- what the query gives, and where it is right
unfoldable pub intro_text : List ℕ
intro_text =
    codes "-- The rows that `flux eval` writes for this plan, in their order: one query for PostgreSQL, SQLite, and engines that take\n"
    ++ codes "-- PostgreSQL's SQL. It is right while no sum goes beyond 9,000,000,000,000,000,000 either way: there Flux cuts sums, and\n"
    ++ codes "-- this query doesn't. Marks and hold change no row.\n"

-- the table of trades
unfoldable pub trades_table : List ℕ
trades_table =
    codes "--\n-- The trades: n is the place in the file from 1, time is in seconds, value is qty times the price in cents, and of a sale\n"
    ++ codes "-- qty and value are below zero.\n"
    ++ codes "--   CREATE TABLE trades (n BIGINT, time BIGINT, account BIGINT, symbol TEXT, qty BIGINT, value BIGINT);\n"

-- a file of trades is read as it stands
unfoldable pub trades_read : List ℕ
trades_read =
    codes "-- A file of them with the columns time,account,symbol,side,qty,price is loaded by sqlite3\n"
    ++ codes "--   .import --csv trades.csv trades_file\n"
    ++ codes "-- or by psql\n"
    ++ codes "--   CREATE TABLE trades_file (rowid BIGINT GENERATED ALWAYS AS IDENTITY, time TEXT, account BIGINT, symbol TEXT,\n--     side TEXT, qty BIGINT, price NUMERIC);\n"
    ++ codes "--   \\copy trades_file (time, account, symbol, side, qty, price) FROM 'trades.csv' WITH (FORMAT csv, HEADER)\n"

-- a time of a file, a number of seconds or a time of day, as seconds
unfoldable pub time_read : List ℕ
time_read =
    codes "--            CASE WHEN time LIKE '%:%' THEN CAST(SUBSTR(time, 1, LENGTH(time) - 6) AS BIGINT) * 3600\n"
    ++ codes "--              + CAST(SUBSTR(time, LENGTH(time) - 4, 2) AS BIGINT) * 60 + CAST(SUBSTR(time, LENGTH(time) - 1) AS BIGINT)\n"
    ++ codes "--              ELSE CAST(time AS BIGINT) END AS time\n"

-- the fields of a file of trades become a table's
unfoldable pub trades_filled : List ℕ
trades_filled =
    codes "-- and then by both\n"
    ++ codes "--   INSERT INTO trades\n--   SELECT n, time, account, symbol, sign * qty, sign * qty * CAST(ROUND(price * 100) AS BIGINT)\n"
    ++ codes "--   FROM (SELECT rowid AS n, account, symbol, qty, price, CASE WHEN UPPER(side) LIKE 'B%' THEN 1 ELSE -1 END AS sign,\n"
    ++ time_read
    ++ codes "--         FROM trades_file) AS fields;\n"

-- the table of movements
unfoldable pub movements_table : List ℕ
movements_table =
    codes "--\n-- The cash movements: n is the place in their file from 1, and amount is in cents. Without such a file the table is empty.\n"
    ++ codes "--   CREATE TABLE movements (n BIGINT, time BIGINT, account BIGINT, amount BIGINT);\n"

-- a file of movements is read as it stands
unfoldable pub movements_read : List ℕ
movements_read =
    codes "-- A file of them with the columns time,account,amount is loaded by sqlite3\n"
    ++ codes "--   .import --csv cash.csv movements_file\n"
    ++ codes "-- or by psql\n"
    ++ codes "--   CREATE TABLE movements_file (rowid BIGINT GENERATED ALWAYS AS IDENTITY, time TEXT, account BIGINT, amount NUMERIC);\n"
    ++ codes "--   \\copy movements_file (time, account, amount) FROM 'cash.csv' WITH (FORMAT csv, HEADER)\n"

-- the fields of a file of movements become a table's
unfoldable pub movements_filled : List ℕ
movements_filled =
    codes "-- and then by both\n"
    ++ codes "--   INSERT INTO movements\n--   SELECT n, time, account, CAST(ROUND(amount * 100) AS BIGINT)\n"
    ++ codes "--   FROM (SELECT rowid AS n, account, amount,\n"
    ++ time_read
    ++ codes "--         FROM movements_file) AS fields;\n"

-- how the table of trades is made and loaded
unfoldable pub trades_loading : List ℕ
trades_loading = trades_table ++ trades_read ++ trades_filled

-- how the table of movements is made and loaded
unfoldable pub movements_loading : List ℕ
movements_loading = movements_table ++ movements_read ++ movements_filled

-- how the tables of a plan of this version are made and loaded: that of version 1 has no movements
unfoldable pub loading : ℕ → List ℕ
loading version = if version == 1 then trades_loading else trades_loading ++ movements_loading
